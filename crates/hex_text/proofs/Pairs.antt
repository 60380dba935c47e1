-- Lines of pairs: which lines they are, that each byte is the value of its pair, and how many bytes there are.
-- Assumes nothing.
use Prim.Native.Nat.{ℕ, zero, suc, ◌+◌, ◌-◌, ◌*◌, ◌<◌, ◌≤◌}
use mathlib.Core.Path.{◌≡◌, refl, sym, ap, ◌∙◌}
use mathlib.Core.Bool.{Bool, true, false, cond, ◌&&◌, false≢true, and-true, and-eq-true_iff}
use mathlib.Core.List.{List, [], ◌∷◌}
use native.Mathlib.Omega.{arith}
use borrow.Author.Tests.{le-leb, eqb-true}
use lib.Dec.{eqb}
use lib.ListN.{length, get_or}
use lib.Seq.{sets}
use Rattle.logic.proofs.Written.{stores}
use Rattle.hex_text.specs.Scan.{is_block}
use Rattle.hex_text.specs.Hex.{Line, block, not_hex, is_pair, pair_value, prepend, space, pairs, line_written}
use Rattle.hex_text.proofs.Digits.{all_values, pair_digits, pair_small, digit_place, values_right}

prepend-block : (b : ℕ) (r : Line) → is_block (prepend b r) ≡ is_block r
prepend-block b (block bs) = refl
prepend-block b not_hex = refl

cond-block : (t : Bool) (r : Line) → is_block (cond t r not_hex) ≡ t && is_block r
cond-block true r = refl
cond-block false r = refl

module _ (a b c : ℕ) (l : List ℕ) where
  pub block_more : is_pair a b && eqb c space ≡ true → is_block (pairs (a ∷ b ∷ c ∷ l)) ≡ is_block (pairs l)
  unfolding pairs
  block_more t = simp t (prepend-block (pair_value a b) (pairs l))

  pub block-other : is_pair a b && eqb c space ≡ false → is_block (pairs (a ∷ b ∷ c ∷ l)) ≡ false
  unfolding pairs
  block-other f = simp f

pub block-two : (a b : ℕ) → is_block (pairs (a ∷ b ∷ [])) ≡ is_pair a b
unfolding pairs
block-two a b = simp (cond-block, and-true)

-- a line of pairs, and its bytes
pub data Decodes : List ℕ → List ℕ → Type 0 where
  last : {a b : ℕ} → is_pair a b ≡ true → Decodes (a ∷ b ∷ []) (pair_value a b ∷ [])
  more : {a b : ℕ} {l bs : List ℕ} → is_pair a b ≡ true → Decodes l bs → Decodes (a ∷ b ∷ space ∷ l) (pair_value a b ∷ bs)

-- a byte for each pair, which is three characters, but the last has no space after it
pub decodes-length : {l bs : List ℕ} → Decodes l bs → 3 * length bs ≡ length l + 1
decodes-length (last p) = refl
decodes-length (more p d) = omega (arith, decodes-length d)

-- the byte n is the value of the pair at 3 * n
decodes-at : {l bs : List ℕ} → Decodes l bs → (n : ℕ) → n < length bs → (is_pair (get_or l (3 * n) 0) (get_or l (3 * n + 1) 0) ≡ true) × (get_or bs n 0 ≡ pair_value (get_or l (3 * n) 0) (get_or l (3 * n + 1) 0))
decodes-at (last p) zero h = (p, refl)
decodes-at (last p) (suc n) h = absurd (omega arith)
decodes-at (more p d) zero h = (p, refl)
decodes-at (more p d) (suc n) h =
    let e : 3 * suc n ≡ suc (suc (suc (3 * n))) = omega arith in
    let f : 3 * suc n + 1 ≡ suc (suc (suc (3 * n + 1))) = omega arith in
    rw (f, e) (decodes-at d n (omega arith))

-- a pair's characters stand in the table of values, and the two values make the byte
pub record Here (high low byte : ℕ) : Type 0 where
  pub high_place : (48 ≤ high) × (high < 71)
  pub low_place : (48 ≤ low) × (low < 71)
  pub value : get_or all_values (high - 48) 0 * 16 + get_or all_values (low - 48) 0 ≡ byte
  pub fits : byte < 256

here : (high low byte : ℕ) → is_pair high low ≡ true → byte ≡ pair_value high low → Here high low byte
here high low byte p e =
    let d = pair_digits high low p in record {
      high_place = digit_place high d.0;
      low_place = digit_place low d.1;
      value = rw (values_right high d.0, values_right low d.1) (sym e);
      fits = rw e (pair_small high low p);
    }

abbrev pub bytes_of : Line → List ℕ
bytes_of (block bs) = bs
bytes_of not_hex = []

pub is_block_lem : (r : Line) → is_block r ≡ true → r ≡ block (bytes_of r)
is_block_lem (block bs) e = refl
is_block_lem not_hex e = cc

pub is_not_hex : (r : Line) → is_block r ≡ false → r ≡ not_hex
is_not_hex (block bs) e = cc
is_not_hex not_hex e = refl

prepend-bytes : (b : ℕ) (r : Line) → is_block r ≡ true → bytes_of (prepend b r) ≡ b ∷ bytes_of r
prepend-bytes b (block bs) e = refl
prepend-bytes b not_hex e = cc

pub decodes : (l : List ℕ) → is_block (pairs l) ≡ true → Decodes l (bytes_of (pairs l))
unfolding pairs
decodes [] e = absurd (false≢true e)
decodes (a ∷ []) e = absurd (false≢true e)
decodes (a ∷ b ∷ []) e =
    let p : is_pair a b ≡ true = simp (cond-block, and-true) at e in
    rw p (last p)
decodes (a ∷ b ∷ c ∷ l) e =
    let p = (and-eq-true_iff (is_pair a b && eqb c space) (is_block (pairs l))).0 (simp (cond-block, prepend-block) at e) in
    let q = (and-eq-true_iff (is_pair a b) (eqb c space)).0 p.0 in
    rw p.0 (rw (prepend-bytes (pair_value a b) (pairs l) p.1, eqb-true c space q.1) (more q.0 (decodes l p.1)))

module _ (line : List ℕ) (pairs-only : is_block (pairs line) ≡ true) where
  pub count : 3 * length (bytes_of (pairs line)) ≡ length line + 1
  count = decodes-length (decodes line pairs-only)

  -- what stands at the place of the byte n
  pub pair-here : (n : ℕ) → n < length (bytes_of (pairs line)) → Here (get_or line (3 * n) 0) (get_or line (3 * n + 1) 0) (get_or (bytes_of (pairs line)) n 0)
  pair-here n h = let d = decodes-at (decodes line pairs-only) n h in here _ _ _ d.0 d.1

  pub all-written : (buffer : List ℕ) → length (bytes_of (pairs line)) ≤ length buffer → line_written (pairs line) buffer ≡ sets buffer 0 (bytes_of (pairs line))
  all-written buffer room =
      ap (λ (r : Line). line_written r buffer) (is_block_lem (pairs line) pairs-only) ∙ simp (le-leb _ _ room) (sym (stores buffer (bytes_of (pairs line)) room))
