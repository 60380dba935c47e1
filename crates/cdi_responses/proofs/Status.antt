-- The status: what cells that fit show of it is four bytes that the item list can hold, and for all such bytes there are cells that
-- show them.
-- Assumes nothing.
use Prim.Native.Nat.{ℕ, zero, suc, ◌<◌, ◌%◌}
use mathlib.Core.Path.{◌≡◌, refl, sym, ap, ◌∙◌}
use mathlib.Core.Bool.{Bool, true, cond, not, ◌&&◌, ◌||◌, and-eq-true_iff}
use mathlib.Core.List.{List, [], ◌∷◌}
use native.Mathlib.Omega.{arith}
use borrow.Author.Tests.{eqb-true, ltb-true, lt-ltb}
use lib.Bits.{bit_or}
use lib.Dec.{eqb, ltb}
use lib.ListN.{length, get_or}
use Rattle.logic.specs.Lists.{all_below, Bytes}
use Rattle.logic.proofs.Below.{all-at}
use Rattle.logic.proofs.Bytes.{bytes_of}
use Rattle.logic.proofs.Choice.{choice, implied}
use Rattle.logic.proofs.Places.{all_is_bytes}
use Rattle.cdi_item.specs.Bits.{power_from_setting, line_mask_from_setting, latch_mask_from_setting, event_flag}
use Rattle.cdi_model.specs.Cells.{working, line_mask_code, latch_mask_code, tx_power_code, control_source_code, interrupt_mask_code, setting, events, flags, hardwarePower, hardwareLineMask, hardwareLatchMask, Cell, copy_of, single, is_cell}
use Rattle.cdi_model.specs.Values.{byte_of, accepted_flags, is_set}
use Rattle.cdi_model.specs.Model.{Cells, status_of}
use Rattle.cdi_model.specs.Factory.{factory_cells}
use Rattle.cdi_model.proofs.Validity.{takes}
use Rattle.cdi_responses.proofs.Fit.{cell_length, AllFit, factory_fits, put, put-fits}

-- ---- what cells that fit show
-- a byte whose bits 0 to 6 are accepted flags
abbrev is_first : ℕ → Bool
is_first b = ltb b 256 && accepted_flags (b % event_flag)

-- accepted flags are such a byte, with bit 7 and without, by a test of every byte
flags_first : all_below 256 (λ n. not (accepted_flags n) || (is_first n && is_first (bit_or n event_flag))) ≡ true
unfolding all_below
flags_first = refl

module _ (f : Cells) (fit : AllFit f) where
  byte_at : (c : Cell) → is_cell c ≡ true → byte_of (f c) < 256
  byte_at c there = (fit c there).bytes 0

  -- a setting's byte or the hardware's, as the control source selects
  selected : (bit : ℕ) (c d : Cell) → is_cell c ≡ true → is_cell d ≡ true
      → cond (is_set bit (byte_of (f (copy_of working (setting control_source_code))))) (byte_of (f c)) (byte_of (f d)) < 256
  selected bit c d p q =
      choice (λ b. b < 256) (is_set bit (byte_of (f (copy_of working (setting control_source_code))))) (λ _. byte_at c p) (λ _. byte_at d q)

  first_byte : is_first (byte_of (status_of f)) ≡ true
  first_byte =
      let n = byte_of (f (single flags)) in
      let p = implied (accepted_flags n) _ (all-at 256 _ flags_first n (byte_at (single flags) refl)) (fit (single flags) refl).taken in
      let both = (and-eq-true_iff (is_first n) (is_first (bit_or n event_flag))).0 p in
      let event = is_set (byte_of (f (copy_of working (setting interrupt_mask_code)))) (byte_of (f (single events))) in
      choice (λ b. is_first b ≡ true) event (λ _. both.1) (λ _. both.0)

  first-parts : (ltb (byte_of (status_of f)) 256 ≡ true) × (accepted_flags (byte_of (status_of f) % event_flag) ≡ true)
  first-parts = (and-eq-true_iff _ _).0 first_byte

  pub status-accepted : accepted_flags (byte_of (status_of f) % event_flag) ≡ true
  status-accepted = first-parts.1

  pub status-bytes : Bytes (status_of f)
  status-bytes zero = ltb-true _ 256 first-parts.0
  status-bytes (suc zero) = selected power_from_setting (copy_of working (setting tx_power_code)) (single hardwarePower) refl refl
  status-bytes (suc (suc zero)) = selected line_mask_from_setting (copy_of working (setting line_mask_code)) (single hardwareLineMask) refl refl
  status-bytes (suc (suc (suc zero))) = selected latch_mask_from_setting (copy_of working (setting latch_mask_code)) (single hardwareLatchMask) refl refl
  status-bytes (suc (suc (suc (suc i)))) = omega arith

-- ---- cells that show given bytes: the first byte is the flags, and an event in bit 7; the other three are what the hardware selects,
-- which is shown since the factory's control source leaves the choice to the hardware
abbrev pub status_cells : List ℕ → Cells
status_cells w =
    put (single flags) (get_or w 0 0 % event_flag ∷ [])
    (put (single events) (get_or w 0 0 ∷ [])
    (put (copy_of working (setting interrupt_mask_code)) (event_flag ∷ [])
    (put (single hardwarePower) (get_or w 1 0 ∷ [])
    (put (single hardwareLineMask) (get_or w 2 0 ∷ [])
    (put (single hardwareLatchMask) (get_or w 3 0 ∷ []) factory_cells)))))

byte_fits : (c : Cell) (b : ℕ) (f : Cells) → cell_length c ≡ 1 → takes c (b ∷ []) ≡ true → b < 256 → AllFit f → AllFit (put c (b ∷ []) f)
byte_fits c b f size ok h = put-fits c (b ∷ []) f (record { sized = sym size; taken = ok; bytes = bytes_of (b ∷ []) (rw (lt-ltb b 256 h)) })

pub status-fits : (w : List ℕ) → accepted_flags (byte_of w % event_flag) ≡ true → Bytes w → AllFit (status_cells w)
status-fits w ok bytes =
    byte_fits _ _ _ refl ok (omega (arith, bytes 0))
    (byte_fits _ _ _ refl refl (bytes 0)
    (byte_fits _ _ _ refl refl (omega arith)
    (byte_fits _ _ _ refl refl (bytes 1)
    (byte_fits _ _ _ refl refl (bytes 2)
    (byte_fits _ _ _ refl refl (bytes 3) factory_fits)))))

-- a byte is its bits 0 to 6, with bit 7 where it has bit 7, by a test of every byte
bit_7_back : all_below 256 (λ b. eqb (cond (is_set event_flag b) (bit_or (b % event_flag) event_flag) (b % event_flag)) b) ≡ true
unfolding all_below
bit_7_back = refl

pub status-back : (w : List ℕ) → length w ≡ 4 → Bytes w → status_of (status_cells w) ≡ w
status-back w size bytes =
    ap (λ (b : ℕ). b ∷ get_or w 1 0 ∷ get_or w 2 0 ∷ get_or w 3 0 ∷ [])
    (eqb-true _ (get_or w 0 0) (all-at 256 _ bit_7_back (get_or w 0 0) (bytes 0))) ∙
    all_is_bytes 4 w size
