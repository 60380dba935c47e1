-- A slot, and so many slots one behind the other: each is read as what was written, and written as what was read.
-- Assumes nothing.
use Prim.Native.Nat.{ℕ, zero, suc, ◌+◌, ◌*◌, ◌<◌, suc-le-suc}
use mathlib.Core.Path.{◌≡◌, refl, sym, ap, ◌∙◌}
use mathlib.Core.List.{List, [], ◌∷◌, ◌++◌, flat_map}
use native.Mathlib.Omega.{arith}
use native.Mathlib.Nat.{zero-lt-suc}
use lib.ListN.{length, get_or, take, drop, length-append, length-drop, take-append-drop}
use lib.Seq.{length-take-le, take_at, drop_at, drop-drop, get_or_at, ext_get_or}
use Rattle.logic.specs.Lists.{part}
use Rattle.cdi_state.specs.declared.Slot.{Slot}
use Rattle.cdi_state.specs.State.{slot_bytes, no_slot, slot_in}
use Rattle.cdi_state.proofs.Rows.{slot_written}
use Rattle.cdi_image.specs.Image.{slots_in}

-- ---- one row
slot_read : (x : Slot) → length x.address ≡ 4 → slot_in (slot_bytes x) ≡ x
slot_read x h =
    let address = take_at x.address (x.mask ∷ []) 4 h in
    let mask = get_or_at x.address x.mask [] 0 4 h in
    λ i. record { address = address i; mask = mask i }

-- ---- many slots
-- the addresses have their four bytes
abbrev pub FourLong : List Slot → Type 0
FourLong l = (i : ℕ) → i < length l → length (get_or l i no_slot).address ≡ 4

module _ (x : Slot) (l : List Slot) (h : FourLong (x ∷ l)) where
  row-length : length (slot_bytes x) ≡ 5
  row-length = length-append x.address (x.mask ∷ []) ∙ ap (λ (n : ℕ). n + 1) (h 0 (zero-lt-suc (length l)))

  others : FourLong l
  others i k = h (suc i) (suc-le-suc k)

pub slots_length : (l : List Slot) → FourLong l → length (flat_map slot_bytes l) ≡ 5 * length l
unfolding flat_map
slots_length [] h = refl
slots_length (x ∷ l) h =
    omega (arith, length-append (slot_bytes x) (flat_map slot_bytes l), row-length x l h, slots_length l (others x l h))

pub slots_read : (l : List Slot) → FourLong l → slots_in (length l) (flat_map slot_bytes l) ≡ l
unfolding slots_in flat_map
slots_read [] h = refl
slots_read (x ∷ l) h =
    let rest : List ℕ = flat_map slot_bytes l in
    let one : slot_in (take 5 (slot_bytes x ++ rest)) ≡ x =
    ap slot_in (take_at (slot_bytes x) rest 5 (row-length x l h)) ∙ slot_read x (h 0 (zero-lt-suc (length l)))
    in
    let more : slots_in (length l) (drop 5 (slot_bytes x ++ rest)) ≡ l =
    ap (slots_in (length l)) (drop_at (slot_bytes x) rest 5 (row-length x l h)) ∙ slots_read l (others x l h)
    in
    λ i. one i ∷ more i

pub slots-written : (n : ℕ) (rows : List ℕ) → length rows ≡ 5 * n → flat_map slot_bytes (slots_in n rows) ≡ rows
unfolding slots_in flat_map
slots-written zero [] h = refl
slots-written zero (b ∷ rows) h = absurd (omega arith)
slots-written (suc n) rows h =
    let one : slot_bytes (slot_in (take 5 rows)) ≡ take 5 rows = slot_written (take 5 rows) (length-take-le 5 rows (omega (arith, h))) in
    let more : flat_map slot_bytes (slots_in n (drop 5 rows)) ≡ drop 5 rows =
    slots-written n (drop 5 rows) (omega (arith, length-drop 5 rows, h))
    in
    rw (one, more) (take-append-drop 5 rows)

-- a slot by its number: the row at five times that number
pub slots-at : (n : ℕ) (rows : List ℕ) (i : ℕ) → i < n → get_or (slots_in n rows) i no_slot ≡ slot_in (part (5 * i) 5 rows)
unfolding slots_in
slots-at zero rows i h = absurd (omega arith)
slots-at (suc n) rows zero h = refl
slots-at (suc n) rows (suc i) h =
    let behind : 5 * suc i ≡ 5 + 5 * i = omega arith in
    slots-at n (drop 5 rows) i (omega arith) ∙ rw (drop-drop (5 * i) 5 rows, behind)

slots-count : (n : ℕ) (rows : List ℕ) → length (slots_in n rows) ≡ n
unfolding slots_in
slots-count zero rows = refl
slots-count (suc n) rows = omega (arith, slots-count n (drop 5 rows))

-- so many slots, each made of its row
pub slots_made : (n : ℕ) (slots : List Slot) (rows : List ℕ) → length slots ≡ n
    → ((i : ℕ) → i < n → get_or slots i no_slot ≡ slot_in (part (5 * i) 5 rows)) → slots ≡ slots_in n rows
slots_made n slots rows long each =
    ext_get_or no_slot slots (slots_in n rows) (long ∙ sym (slots-count n rows))
    (λ i h. each i (omega (arith, long, h)) ∙ sym (slots-at n rows i (omega (arith, long, h))))
