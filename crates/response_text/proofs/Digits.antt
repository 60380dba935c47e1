-- Laws of the digits that are written: a value's digit has that value, and the code's table is right at each entry.
-- Assumes nothing.
use Prim.Native.Nat.{ℕ, ◌+◌, ◌<◌}
use mathlib.Core.Path.{◌≡◌, refl}
use mathlib.Core.Bool.{true}
use native.Mathlib.Omega.{arith}
use borrow.Author.Tests.{le-leb, lt-leb, ltb-true, ltb-false, eqb-true}
use lib.Dec.{ltb, eqb}
use lib.ListN.{get_or}
use Rattle.logic.specs.Lists.{all_below}
use Rattle.logic.proofs.Below.{all-at}
use Rattle.logic.proofs.Choice.{by_cases}
use Rattle.hex_text.specs.Hex.{is_digit, digit_value}
use Rattle.response_text.specs.Text.{digit_of, all_digits}

pub digit_back : (n : ℕ) → n < 16 → (is_digit (digit_of n) ≡ true) × (digit_value (digit_of n) ≡ n)
digit_back n h =
    by_cases (ltb n 10)
    (λ t. let l = ltb-true n 10 t in simp (t, le-leb 48 (n + 48) (omega arith), le-leb (n + 48) 57 (omega arith)) (refl, omega arith))
    (λ f. let l = ltb-false n 10 f in simp (f, le-leb 48 (n + 55) (omega arith), lt-leb (n + 55) 57 (omega arith), le-leb 65 (n + 55) (omega arith), le-leb (n + 55) 70 (omega arith)) (refl, omega arith))

pub digits_right : (n : ℕ) → n < 16 → get_or all_digits n 0 ≡ digit_of n
unfolding all_below
digits_right n h = eqb-true (get_or all_digits n 0) (digit_of n) (all-at 16 (λ (k : ℕ). eqb (get_or all_digits k 0) (digit_of k)) refl n h)
