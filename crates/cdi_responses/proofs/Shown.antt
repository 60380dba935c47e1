-- The names that are shown: up to the first 00.
-- Assumes nothing.
use Prim.Native.Nat.{ℕ, suc, ◌-◌, ◌<◌}
use mathlib.Core.Path.{◌≡◌, refl, sym, ap}
use mathlib.Core.Bool.{true, false, true≢false}
use mathlib.Core.List.{List, [], ◌∷◌, ◌++◌}
use native.Mathlib.Omega.{arith}
use borrow.Author.Tests.{eqb-true}
use lib.Dec.{eqb}
use lib.ListN.{length, get_or, take}
use Rattle.logic.specs.Lists.{has_zero}
use Rattle.logic.proofs.Choice.{by_cases, neither}
use Rattle.cdi_value.specs.Value.{name_shown}

-- where the first 00 is, and that the name is shown up to it
pub record FirstZero (w : List ℕ) : Type 0 where
  pub place : ℕ
  pub within : place < length w
  pub shown : name_shown w ≡ take (suc place) w
  pub none_before : has_zero (take place w) ≡ false
  pub is_zero : get_or w place 0 ≡ 0

pub first_zero : (w : List ℕ) → has_zero w ≡ true → FirstZero w
unfolding name_shown
first_zero [] e = absurd (true≢false (sym e))
first_zero (b ∷ w) e =
    by_cases (eqb b 0) (λ t. record { place = 0; within = omega arith; shown = rw t; none_before = refl; is_zero = eqb-true b 0 t })
    (λ f.
    let r = first_zero w (rw f at e) in
    record {
      place = suc r.place;
      within = omega (arith, r.within);
      shown = rw f (ap (λ (l : List ℕ). b ∷ l) r.shown);
      none_before = rw f r.none_before;
      is_zero = r.is_zero;
    })

-- bytes of which none but the last is a 00: one byte less
rest_open : (b c : ℕ) (u : List ℕ) → has_zero (take (length (b ∷ c ∷ u) - 1) (b ∷ c ∷ u)) ≡ false
    → (eqb b 0 ≡ false) × (has_zero (take (length (c ∷ u) - 1) (c ∷ u)) ≡ false)
rest_open b c u e =
    let all : length (b ∷ c ∷ u) - 1 ≡ suc (length (c ∷ u) - 1) = omega arith in
    neither (eqb b 0) (has_zero (take (length (c ∷ u) - 1) (c ∷ u))) (rw all at e)

-- they are shown, whatever follows, ...
pub front-shown : (u more : List ℕ) → has_zero (take (length u - 1) u) ≡ false → take (length u) (name_shown (u ++ more)) ≡ u
unfolding name_shown
front-shown [] more e = refl
front-shown (b ∷ []) more e = by_cases (eqb b 0) (λ t. rw t) (λ f. rw f)
front-shown (b ∷ c ∷ u) more e =
    let p = rest_open b c u e in
    rw p.0 (ap (λ (l : List ℕ). b ∷ l) (front-shown (c ∷ u) more p.1))

-- ... and nothing after them, if the last is a 00
pub all_shown : (u more : List ℕ) → has_zero (take (length u - 1) u) ≡ false → has_zero u ≡ true → name_shown (u ++ more) ≡ u
unfolding name_shown
all_shown [] more e z = absurd (true≢false (sym z))
all_shown (b ∷ []) more e z = by_cases (eqb b 0) (λ t. rw t) (λ f. absurd (true≢false (sym (rw f at z))))
all_shown (b ∷ c ∷ u) more e z =
    let p = rest_open b c u e in
    rw p.0 (ap (λ (l : List ℕ). b ∷ l) (all_shown (c ∷ u) more p.1 (rw p.0 at z)))
