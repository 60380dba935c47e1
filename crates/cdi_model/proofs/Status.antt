-- Bit 7 of the status is set exactly where an event is in the interrupt mask: flags that are valid have it clear.
-- Assumes nothing.
use Prim.Native.Nat.{ℕ, ◌+◌, ◌*◌, ◌/◌, ◌%◌}
use mathlib.Core.Path.{◌≡◌, refl, sym, ap, ◌∙◌}
use mathlib.Core.Bool.{Bool, true, false, cond, and-eq-true_iff}
use native.Mathlib.Omega.{arith}
use borrow.Author.Tests.{eqb-true}
use lib.Bits.{bit_and, bit_or, and_block, and_high, and_mask, or_disjoint}
use lib.Dec.{eqb, leb}
use Rattle.cdi_item.specs.Bits.{event_flag, mode_mask, mode_max, flags_zero}
use Rattle.cdi_model.specs.Cells.{interrupt_mask_code, setting, working, copy_of, events, flags, single}
use Rattle.cdi_model.specs.Values.{byte_of, is_set, accepted_flags}
use Rattle.cdi_model.specs.Model.{Cells, is_valid, status_of}
use Rattle.cdi_model.proofs.Validity.{valid-takes}

-- bit 7 of a number, by its upper part
bit_seven : (n : ℕ) → bit_and n event_flag ≡ n / 128 % 2 * 128
bit_seven n = and_high n 1 7

-- flags that are accepted have it clear
clear : (f : ℕ) → accepted_flags f ≡ true → f / 128 % 2 ≡ 0
clear f a =
    let none = eqb-true (bit_and f flags_zero) 0 ((and-eq-true_iff (leb (bit_and f mode_mask) mode_max) (eqb (bit_and f flags_zero) 0)).0 a).1 in
    let whole : f / 128 * 128 + f % 128 ≡ f = omega arith in
    let upper : bit_and (f / 128) 1 * 128 + bit_and (f % 128) 72 ≡ 0 =
    sym (and_block 7 (f / 128) 1 (f % 128) 72 (omega arith) (omega arith)) ∙ ap (λ (n : ℕ). bit_and n flags_zero) whole ∙ none in
    omega (arith, upper, and_mask (f / 128) 1)

-- so setting it where there is an event tells whether there is one
told : (f : ℕ) (event : Bool) → accepted_flags f ≡ true → is_set event_flag (cond event (bit_or f event_flag) f) ≡ event
told f true a =
    let no = clear f a in
    let set : bit_and (bit_or f event_flag) event_flag ≡ event_flag =
    ap (λ (n : ℕ). bit_and n event_flag) (or_disjoint f event_flag (omega (arith, bit_seven f))) ∙ bit_seven (f + event_flag) ∙ omega arith in
    rw set
told f false a =
    let no = clear f a in
    let unset : bit_and f event_flag ≡ 0 = omega (arith, bit_seven f) in
    rw unset

pub status_bit_7 : (s : Cells) → is_valid s ≡ true →
    is_set event_flag (byte_of (status_of s)) ≡ is_set (byte_of (s (copy_of working (setting interrupt_mask_code)))) (byte_of (s (single events)))
status_bit_7 s v =
    told (byte_of (s (single flags))) (is_set (byte_of (s (copy_of working (setting interrupt_mask_code)))) (byte_of (s (single events))))
    (valid-takes s v (single flags) refl)
