-- `fit_targets` says what document 02 says of targets: 1 to 16 whole addresses, none of which has the group 80.
-- Assumes nothing.
use Prim.Native.Nat.{ℕ, zero, suc, ◌*◌, ◌<◌, ◌≤◌}
use mathlib.Core.Path.{◌≡◌, refl, sym, ap}
use mathlib.Core.Bool.{true}
use mathlib.Core.List.{List, [], ◌∷◌}
use native.Mathlib.Omega.{arith}
use borrow.Author.Tests.{le-leb, eq-eqb, ne_eqb, eqb-false}
use lib.Dec.{eqb}
use lib.ListN.{length, get_or}
use Rattle.logic.proofs.Choice.{by_cases}
use Rattle.coyote_packet.specs.Layout.{targets_end, targets_before, targets_max, fit_targets}
use Rattle.coyote_packet.specs.Laws.{WholeTargets}
use Rattle.coyote_packet.proofs.Targets.{most}
use Rattle.coyote_packet.proofs.Fits.{targets-counted}

-- a target that is counted has another group
other-group : (m k i : ℕ) (targets : List ℕ) → targets_before m targets ≡ k → 2 * k ≡ length targets → i < k → get_or targets (2 * i) 0 ≡ targets_end → ⊥
unfolding targets_before
other-group m k i [] e l h q = omega arith
other-group m k i (g ∷ []) e l h q = omega arith
other-group zero k i (g ∷ a ∷ targets) e l h q = omega arith
other-group (suc m) k zero (g ∷ a ∷ targets) e l h q =
    by_cases (eqb g targets_end)
    (λ t. let z = simp t at e in omega arith)
    (λ f. eqb-false g targets_end f q)
other-group (suc m) k (suc i) (g ∷ a ∷ targets) e l h q =
    let two : 2 * suc i ≡ suc (suc (2 * i)) = omega arith in
    by_cases (eqb g targets_end)
    (λ t. let z = simp t at e in omega arith)
    (λ f.
    let z = simp f at e in
    other-group m (targets_before m targets) i targets refl (omega arith) (omega arith) (rw two at q))

-- targets that all have another group are all counted
all-counted : (m k : ℕ) (targets : List ℕ) → k ≤ m → length targets ≡ 2 * k → ((i : ℕ) → i < k → get_or targets (2 * i) 0 ≡ targets_end → ⊥) → targets_before m targets ≡ k
unfolding targets_before
all-counted zero k targets h l other = omega arith
all-counted (suc m) k [] h l other = omega arith
all-counted (suc m) k (g ∷ []) h l other = absurd (omega arith)
all-counted (suc m) zero (g ∷ a ∷ targets) h l other = absurd (omega arith)
all-counted (suc m) (suc k) (g ∷ a ∷ targets) h l other =
    simp (ne_eqb g targets_end (other 0 (omega arith)))
    (ap suc (all-counted m k targets (omega arith) (omega arith) (λ i b q. other (suc i) (omega arith) (shifted i q))))
  where
    shifted : (i : ℕ) → get_or targets (2 * i) 0 ≡ targets_end → get_or (g ∷ a ∷ targets) (2 * suc i) 0 ≡ targets_end
    shifted i q =
        let two : 2 * suc i ≡ suc (suc (2 * i)) = omega arith in
        rw two q

pub fit_is_whole : (targets : List ℕ) → fit_targets targets ≡ true → WholeTargets targets
fit_is_whole targets e =
    let n = targets-counted targets e in
    let k = targets_before targets_max targets in
    record {
      count = k;
      some = n.0;
      few = most targets_max targets;
      whole = sym n.1;
      other_groups = λ i h. other-group targets_max k i targets refl n.1 h;
    }

pub whole_is_fit : (targets : List ℕ) → WholeTargets targets → fit_targets targets ≡ true
whole_is_fit targets w =
    let k = w.count in
    let all = all-counted targets_max k targets w.few w.whole w.other_groups in
    simp (all, le-leb 1 k w.some, eq-eqb (2 * k) (length targets) (sym w.whole))
