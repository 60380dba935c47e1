-- A 00 among some bytes.
-- Assumes nothing.
use Prim.Native.Nat.{ℕ, zero, suc, ◌≤◌}
use mathlib.Core.Path.{◌≡◌, refl, sym, ap, ◌∙◌}
use mathlib.Core.Bool.{Bool, true, false, ◌||◌, or_assoc, or-true}
use mathlib.Core.List.{List, [], ◌∷◌, ◌++◌}
use native.Mathlib.Omega.{arith}
use lib.Dec.{eqb}
use Rattle.std.specs.List.{list_any}
use lib.ListN.{take}
use Rattle.logic.specs.Lists.{has_zero}
use Rattle.logic.proofs.Choice.{neither}

-- it is among the first or among the others
pub zero_append : (a b : List ℕ) → has_zero (a ++ b) ≡ has_zero a || has_zero b
zero_append [] b = refl
zero_append (x ∷ a) b = ap (λ (t : Bool). eqb x 0 || t) (zero_append a b) ∙ sym (or_assoc (eqb x 0) (has_zero a) (has_zero b))

pub zero_after : (a b : List ℕ) → has_zero b ≡ true → has_zero (a ++ b) ≡ true
zero_after a b e = zero_append a b ∙ rw e (or-true (has_zero a))

-- bytes without one have none among the first of them
pub no_zero_before : (l : List ℕ) (i j : ℕ) → i ≤ j → has_zero (take j l) ≡ false → has_zero (take i l) ≡ false
no_zero_before l zero j h e = refl
no_zero_before [] (suc i) j h e = refl
no_zero_before (x ∷ l) (suc i) zero h e = absurd (omega arith)
no_zero_before (x ∷ l) (suc i) (suc j) h e =
    let p = neither (eqb x 0) (has_zero (take j l)) e in
    rw p.0 (no_zero_before l i j (omega arith) p.1)

-- whether `contains` finds one
pub zero-list_any : (l : List ℕ) → has_zero l ≡ list_any (λ b. eqb b 0) l
zero-list_any [] = refl
zero-list_any (x ∷ l) = ap (λ (t : Bool). eqb x 0 || t) (zero-list_any l)
