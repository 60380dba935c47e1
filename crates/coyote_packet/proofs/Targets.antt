-- Laws of `targets_before`: its limit, targets that are written, and targets that are read.
-- Assumes nothing.
use Prim.Native.Nat.{ℕ, zero, suc, ◌*◌, ◌<◌, ◌≤◌}
use mathlib.Core.Path.{◌≡◌, refl, ap, ◌∙◌}
use mathlib.Core.List.{List, [], ◌∷◌, ◌++◌}
use native.Mathlib.Omega.{arith}
use lib.Dec.{eqb}
use lib.ListN.{length, take, drop}
use Rattle.logic.proofs.Choice.{by_cases}
use Rattle.coyote_packet.specs.Layout.{targets_end, targets_before}

-- the count ends where the bytes end
pub none_left : (limit : ℕ) → targets_before limit [] ≡ 0
unfolding targets_before
none_left zero = refl
none_left (suc limit) = refl

pub most : (limit : ℕ) (bytes : List ℕ) → targets_before limit bytes ≤ limit
unfolding targets_before
most zero bytes = omega arith
most (suc limit) [] = omega arith
most (suc limit) (group ∷ rest) =
    by_cases (eqb group targets_end) (λ t. simp t (omega arith)) (λ f. simp f (omega (arith, most limit (drop 1 rest))))

-- whole targets that are written with an 80 after them are all counted, and no more
pub targets-written : (m limit k : ℕ) (targets rest : List ℕ) → targets_before m targets ≡ k → 2 * k ≡ length targets → k < limit
    → targets_before limit (targets ++ targets_end ∷ rest) ≡ k
unfolding targets_before
targets-written m zero k targets rest e l h = absurd (omega arith)
targets-written m (suc limit) k [] rest e l h = omega arith
targets-written m (suc limit) k (g ∷ []) rest e l h = absurd (omega arith)
targets-written zero (suc limit) k (g ∷ a ∷ targets) rest e l h = absurd (omega arith)
targets-written (suc m) (suc limit) k (g ∷ a ∷ targets) rest e l h =
    by_cases (eqb g targets_end)
    (λ t. let z = simp t at e in absurd (omega arith))
    (λ f.
    let z = simp f at e in
    simp f (ap suc (targets-written m limit (targets_before m targets) targets rest refl (omega arith) (omega arith)) ∙ z))

-- the bytes of the targets that are counted are as many whole targets
pub targets-read : (limit m k : ℕ) (bytes : List ℕ) → targets_before limit bytes ≡ k → 2 * k ≤ length bytes → k ≤ m
    → targets_before m (take (2 * k) bytes) ≡ k
unfolding targets_before
targets-read limit m zero bytes e l h = none_left m
targets-read zero m (suc k) bytes e l h = absurd (omega arith)
targets-read (suc limit) zero (suc k) bytes e l h = absurd (omega arith)
targets-read (suc limit) (suc m) (suc k) [] e l h = absurd (omega arith)
targets-read (suc limit) (suc m) (suc k) (g ∷ []) e l h = absurd (omega arith)
targets-read (suc limit) (suc m) (suc k) (g ∷ a ∷ bytes) e l h =
    let two : 2 * suc k ≡ suc (suc (2 * k)) = omega arith in
    by_cases (eqb g targets_end)
    (λ t. let z = simp t at e in absurd (omega arith))
    (λ f.
    let z = simp f at e in
    rw two (simp f (ap suc (targets-read limit m k bytes (omega arith) (omega arith) (omega arith)))))
