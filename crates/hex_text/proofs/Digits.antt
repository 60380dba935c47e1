-- Laws of digits: what a digit is, that its value is below 16, and that the code's tables of bits and of values are right at each
-- entry, which one computed test for each shows.
-- Assumes nothing.
use Prim.Native.Nat.{ℕ, ◌-◌, ◌/◌, ◌%◌, ◌^◌, ◌<◌, ◌≤◌}
use mathlib.Core.Path.{◌≡◌, refl}
use mathlib.Core.Bool.{Bool, true, ◌&&◌, ◌||◌, not, beq, and-eq-true_iff}
use mathlib.Core.List.{List, [], ◌∷◌}
use mathlib.Core.Logic.{◌⊎◌, inl, inr, ⊎_elim}
use native.Mathlib.Omega.{arith}
use borrow.Author.Tests.{le-leb, lt-leb, leb-true, eqb-true}
use lib.Dec.{leb, eqb}
use lib.ListN.{get_or}
use Rattle.logic.specs.Lists.{all_below}
use Rattle.logic.proofs.Below.{all-at}
use Rattle.logic.proofs.Choice.{by_cases, same, implied}
use Rattle.hex_text.specs.Hex.{is_digit, is_pair, digit_value, pair_value}

pub digit_ranges : (c : ℕ) → is_digit c ≡ true → ((48 ≤ c) × (c ≤ 57)) ⊎ ((65 ≤ c) × (c ≤ 70))
digit_ranges c e =
    by_cases (leb 48 c && leb c 57)
    (λ t. let p = (and-eq-true_iff (leb 48 c) (leb c 57)).0 t in inl (leb-true 48 c p.0, leb-true c 57 p.1))
    (λ f. let p = (and-eq-true_iff (leb 65 c) (leb c 70)).0 (rw f at e) in inr (leb-true 65 c p.0, leb-true c 70 p.1))

pub digit_small : (c : ℕ) → is_digit c ≡ true → digit_value c < 16
digit_small c e =
    ⊎_elim (λ (w : (48 ≤ c) × (c ≤ 57)). simp (le-leb c 57 w.1) (omega arith)) (λ (w : (65 ≤ c) × (c ≤ 70)). simp (lt-leb c 57 (omega arith)) (omega arith))
    (digit_ranges c e)

pub pair_digits : (high low : ℕ) → is_pair high low ≡ true → (is_digit high ≡ true) × (is_digit low ≡ true)
pair_digits high low e = (and-eq-true_iff (is_digit high) (is_digit low)).0 e

pub pair_small : (high low : ℕ) → is_pair high low ≡ true → pair_value high low < 256
pair_small high low e =
    let p = pair_digits high low e in
    omega (arith, digit_small high p.0, digit_small low p.1)

-- the bits of the digits
abbrev bit_set : ℕ → Bool
bit_set c = (leb 48 c && leb c 70) && eqb (0x03FF007E / 2 ^ (c % 32) % 2) 1

pub bits_right : (c : ℕ) → c < 256 → bit_set c ≡ is_digit c
unfolding all_below
bits_right c h = same (bit_set c) (is_digit c) (all-at 256 (λ (k : ℕ). beq (bit_set k) (is_digit k)) refl c h)

-- the values of the digits, from `0` on
abbrev pub all_values : List ℕ
all_values = 0 ∷ 1 ∷ 2 ∷ 3 ∷ 4 ∷ 5 ∷ 6 ∷ 7 ∷ 8 ∷ 9 ∷ 0 ∷ 0 ∷ 0 ∷ 0 ∷ 0 ∷ 0 ∷ 0 ∷ 10 ∷ 11 ∷ 12 ∷ 13 ∷ 14 ∷ 15 ∷ []

pub digit_place : (c : ℕ) → is_digit c ≡ true → (48 ≤ c) × (c < 71)
digit_place c e = ⊎_elim (λ (w : (48 ≤ c) × (c ≤ 57)). (w.0, omega arith)) (λ (w : (65 ≤ c) × (c ≤ 70)). (omega arith, omega arith)) (digit_ranges c e)

value_right : ℕ → Bool
value_right c = eqb (get_or all_values (c - 48) 0) (digit_value c)

pub values_right : (c : ℕ) → is_digit c ≡ true → get_or all_values (c - 48) 0 ≡ digit_value c
unfolding value_right all_below
values_right c e =
    eqb-true (get_or all_values (c - 48) 0) (digit_value c)
    (implied (is_digit c) (value_right c) (all-at 71 (λ (k : ℕ). not (is_digit k) || value_right k) refl c (digit_place c e).1) e)
