-- Of readings that pass both tests: their number, their sum and their scaled mean are bounded.
-- Assumes nothing.
use Prim.Native.Nat.{ℕ, ◌*◌, ◌/◌, ◌≤◌}
use mathlib.Core.Path.{◌≡◌, refl}
use mathlib.Core.Bool.{false}
use mathlib.Core.List.{List, [], ◌∷◌}
use native.Mathlib.Omega.{arith}
use native.Mathlib.Nat.{div-le_of_le-mul}
use borrow.Author.Tests.{ltb-false}
use lib.Dec.{ltb}
use Rattle.std.specs.List.{sum}
use Rattle.std.proofs.lemmas.List.Recursion.{is_sum_by}
use lib.ListN.{length}
use Rattle.logic.proofs.Choice.{neither}
use Rattle.analog.specs.Analog.{reading_max, readout_max, scale, any_over, sum_of}

-- the sum of the definition is that of a chain
pub sum_of_sum : (rs : List ℕ) → sum_of rs ≡ sum rs
unfolding sum_of
sum_of_sum = is_sum_by sum_of (λ r. r) refl (λ r rs. refl)

pub sum_bounded : (rs : List ℕ) → any_over rs ≡ false → sum_of rs ≤ reading_max * length rs
unfolding sum_of
sum_bounded [] e = omega arith
sum_bounded (r ∷ rs) e =
    let n = neither (ltb reading_max r) (any_over rs) e in
    omega (arith, ltb-false reading_max r n.0, sum_bounded rs n.1)

-- so their mean, scaled, is a readout
pub mean_bounded : (sum n : ℕ) → sum ≤ reading_max * n → scale * sum / n ≤ readout_max
mean_bounded sum n h = div-le_of_le-mul n (omega arith)
