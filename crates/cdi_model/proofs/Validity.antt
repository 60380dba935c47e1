-- A state is valid where every cell holds a value that it accepts, so validity can be kept cell by cell.
-- Assumes nothing.
use Prim.Native.Nat.{ℕ}
use mathlib.Core.Path.{◌≡◌, refl, sym, subst}
use mathlib.Core.Logic.{◌↔◌}
use mathlib.Core.Bool.{Bool, true, cond, ◌&&◌, and-eq-true_iff}
use mathlib.Core.List.{List}
use native.Mathlib.Omega.{arith}
use borrow.Author.Tests.{ltb-true, lt-ltb, leb-true, eqb-true, eqb-false}
use lib.Dec.{eqb, leb}
use Rattle.logic.specs.Lists.{all_below, has_zero}
use Rattle.logic.proofs.Below.{all-at, all_of}
use Rattle.logic.proofs.Choice.{choice, by_cases}
use Rattle.cdi_model.specs.Cells.{Copy, nv, working, line_mask_code, latch_mask_code, tx_power_code, control_source_code, message_select_code, interrupt_mask_code, Key, setting, input, slot, address, name, flags, Cell, copy_of, single, has_working, is_key, is_cell, same_single}
use Rattle.cdi_model.specs.Values.{byte_of, accepted, accepted_flags}
use Rattle.cdi_model.specs.Model.{Cells, holds_accepted, valid_copy, is_valid}
use Rattle.cdi_model.proofs.Cells.{single_eq}

-- the value is one that the cell accepts
abbrev pub takes : Cell → List ℕ → Bool
takes (copy_of copy k) v = accepted k v
takes (single x) v = cond (same_single x name) (has_zero v) (cond (same_single x flags) (accepted_flags (byte_of v)) true)

-- every cell holds such a value
abbrev pub AllTake : Cells → Type 0
AllTake s = (c : Cell) → is_cell c ≡ true → takes c (s c) ≡ true

-- what holds of inputs 1 and 2 holds of every input
pub each-input : (P : ℕ → Type 0) → P 1 → P 2 → (n : ℕ) → is_key (input n) ≡ true → P n
each-input P one two n e =
    let p = (and-eq-true_iff (leb 1 n) (leb n 2)).0 e in
    by_cases (eqb n 1) (λ q. subst P (sym (eqb-true n 1 q)) one)
    (λ q. subst P (omega (arith, leb-true 1 n p.0, leb-true n 2 p.1, eqb-false n 1 q)) two)

-- a test of five parts holds where each of them does: of this form are the validity of a copy and that of a state
abbrev Each : (a b c d e : Bool) → Type 0
Each a b c d e = (a ≡ true) × (b ≡ true) × (c ≡ true) × (d ≡ true) × (e ≡ true)

five_parts : (a b c d e : Bool) → (a && b && c && d && e ≡ true) ↔ Each a b c d e
five_parts a b c d e = (each, λ p. simp (p.0, p.1, p.2, p.3, p.4))
  where
    each : a && b && c && d && e ≡ true → Each a b c d e
    each p =
        let p1 = (and-eq-true_iff (a && b && c && d) e).0 p in
        let p2 = (and-eq-true_iff (a && b && c) d).0 p1.0 in
        let p3 = (and-eq-true_iff (a && b) c).0 p2.0 in
        let p4 = (and-eq-true_iff a b).0 p3.0 in
        (p4.0, p4.1, p3.1, p2.1, p1.1)

module _ (s : Cells) (copy : Copy) where
  abbrev at : Key → Bool
  at k = holds_accepted s copy k

  -- the validity of a copy, item by item
  copy_parts : (valid_copy s copy ≡ true) ↔ Each (at (setting tx_power_code)) (at (setting control_source_code)) (at (setting message_select_code)) (at (input 1)) (at (input 2))
  copy_parts = five_parts _ _ _ _ _

  -- in a valid copy each item holds an accepted value
  copy-takes : valid_copy s copy ≡ true → (k : Key) → is_key k ≡ true → has_working k ≡ true → at k ≡ true
  copy-takes e (setting line_mask_code) r w = refl
  copy-takes e (setting latch_mask_code) r w = refl
  copy-takes e (setting tx_power_code) r w = (copy_parts.0 e).0
  copy-takes e (setting control_source_code) r w = (copy_parts.0 e).1
  copy-takes e (setting message_select_code) r w = (copy_parts.0 e).2
  copy-takes e (setting interrupt_mask_code) r w = refl
  copy-takes e (input n) r w = each-input (λ n. at (input n) ≡ true) (copy_parts.0 e).3 (copy_parts.0 e).4 n r
  copy-takes e (slot i) r w = cc
  copy-takes e address r w = refl

module _ (s : Cells) where
  -- the validity of a state, part by part
  valid-parts :
      (is_valid s ≡ true) ↔ Each (has_zero (s (single name))) (valid_copy s nv) (all_below 40 (λ i. holds_accepted s nv (slot i)))
      (valid_copy s working) (accepted_flags (byte_of (s (single flags))))
  unfolding is_valid
  valid-parts = five_parts _ _ _ _ _

  -- in a valid state every cell holds a value that it accepts, ...
  pub valid-takes : is_valid s ≡ true → AllTake s
  valid-takes e (copy_of nv (setting x)) h = copy-takes s nv (valid-parts.0 e).1 (setting x) h refl
  valid-takes e (copy_of nv (input n)) h = copy-takes s nv (valid-parts.0 e).1 (input n) h refl
  valid-takes e (copy_of nv (slot i)) h = all-at 40 (λ i. holds_accepted s nv (slot i)) (valid-parts.0 e).2 i (ltb-true i 40 h)
  valid-takes e (copy_of nv address) h = refl
  valid-takes e (copy_of working k) h =
      let p = (and-eq-true_iff (is_key k) (has_working k)).0 h in
      copy-takes s working (valid-parts.0 e).3 k p.0 p.1
  valid-takes e (single x) h =
      choice (λ t. t ≡ true) (same_single x name) (λ q. rw (single_eq x name q) (valid-parts.0 e).0)
      (λ _. choice (λ t. t ≡ true) (same_single x flags) (λ q. rw (single_eq x flags q) (valid-parts.0 e).4) (λ _. refl))

  -- ... and a state where every cell does is valid
  pub takes-valid : AllTake s → is_valid s ≡ true
  takes-valid h =
      valid-parts.1 (
        h (single name) refl,
        copy nv (λ k e. h (copy_of nv k) ((and-eq-true_iff (is_key k) (has_working k)).0 e).0),
        all_of 40 (λ i. holds_accepted s nv (slot i)) (λ i p. h (copy_of nv (slot i)) (lt-ltb i 40 p)),
        copy working (λ k. h (copy_of working k)),
        h (single flags) refl,
      )
    where
      copy : (c : Copy) → ((k : Key) → is_key k && has_working k ≡ true → holds_accepted s c k ≡ true) → valid_copy s c ≡ true
      copy c h =
          (copy_parts s c).1 (
            h (setting tx_power_code) refl,
            h (setting control_source_code) refl,
            h (setting message_select_code) refl,
            h (input 1) refl,
            h (input 2) refl,
          )
