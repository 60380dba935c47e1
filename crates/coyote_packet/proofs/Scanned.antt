-- What a scan of every second byte gives, up to a limit and before the first 80: as many bytes as targets are counted.
-- Assumes nothing.
use Rattle.std.proofs.Common.{◌≡◌, ℕ, zero, suc, Bool, not, cond, List, [], ◌∷◌, length, take, drop, refl, ap, subst, sym, ◌∙◌, arith, eqb, length-drop, IsTrue, Bor}
use Rattle.std.specs.List.{prefix_len}
use Rattle.std.specs.Slice.Iter.{iter_rest, iter_steps}
use Rattle.std.specs.declared.slice.Iter.{Iter}
use Rattle.std.specs.declared.iter.StepBy.{StepBy}
use Rattle.std.specs.Iterator.{Yields}
use Rattle.std.specs.Iterator.Adapters.{step_by_source, step_by_gap, step_by_first_take, step_by_steps}
use Rattle.std.proofs.lemmas.List.Folds.{length-prefix_len}
use Rattle.std.proofs.lemmas.Iterator.{YieldsList}
use Rattle.std.proofs.lemmas.Iterator.Splits.{YieldsList-from_shown_while}
use Rattle.logic.proofs.Choice.{by_cases}
use Rattle.coyote_packet.specs.Layout.{targets_end, targets_before}

-- the bytes in the groups' places
abbrev pub groups : List ℕ → List ℕ
groups [] = []
groups (group ∷ []) = group ∷ []
groups (group ∷ address ∷ rest) = group ∷ groups rest

abbrev pub is_group : ℕ → Bool
is_group b = not (eqb b targets_end)

groups-cons : (group : ℕ) (rest : List ℕ) → groups (group ∷ rest) ≡ group ∷ groups (drop 1 rest)
groups-cons group [] = refl
groups-cons group (address ∷ rest) = refl

no_groups : (bytes : List ℕ) → length bytes ≡ 0 → length (groups bytes) ≡ 0
no_groups [] e = refl
no_groups (group ∷ rest) e = absurd (omega arith)

groups_counted : (limit : ℕ) (bytes : List ℕ) → prefix_len is_group (take limit (groups bytes)) ≡ targets_before limit bytes
unfolding targets_before
groups_counted zero bytes = refl
groups_counted (suc limit) [] = refl
groups_counted (suc limit) (group ∷ []) =
    by_cases (eqb group targets_end) (λ t. simp t) (λ f. simp f (omega (arith, groups_counted limit [])))
groups_counted (suc limit) (group ∷ address ∷ rest) =
    by_cases (eqb group targets_end) (λ t. simp t) (λ f. simp f (omega (arith, groups_counted limit rest)))

-- as many as are given up to a limit and before the first 80
pub counted : (limit : ℕ) (bytes : List ℕ)
    → length (take (prefix_len is_group (take limit (groups bytes))) (take limit (groups bytes))) ≡ targets_before limit bytes
counted limit bytes = length-prefix_len is_group (take limit (groups bytes)) ∙ groups_counted limit bytes

abbrev Scan : Type 0
Scan = StepBy (Iter ℕ)

-- what is passed over before the next byte that a scan gives
abbrev passed : Scan → ℕ
passed s = cond (step_by_first_take s) 0 (step_by_gap s)

abbrev shown : Scan → List ℕ
shown s = groups (drop (passed s) (iter_rest (step_by_source s)))

left : (seen : List (Bor ℕ)) (s t : Iter ℕ) → Yields iter_steps s seen t → drop (length seen) (iter_rest s) ≡ iter_rest t
left [] s t y = ap iter_rest y
left (x ∷ seen) s t (j, step, more) = rw step (left seen j t more)

scanned : (s : Scan) → step_by_gap s ≡ 1 → YieldsList (step_by_steps iter_steps) (λ (x : Bor ℕ). x.now) s (shown s)
scanned = YieldsList-from_shown_while (step_by_steps iter_steps) (λ (x : Bor ℕ). x.now) shown (λ s. step_by_gap s ≡ 1)
    (λ s t one (_, _, (n, seen, at, (u, y, out), few)).
    let rest = iter_rest (step_by_source s) in
    no_groups (drop (passed s) rest) (omega (arith, ap length (left seen _ u y), out, length-drop (passed s) rest, length-drop (length seen) rest)))
    (λ s x t one (gap, again, (n, seen, at, (u, y, next), many)).
    let rest = iter_rest (step_by_source s) in
    let skip : passed s ≡ length seen = sym (many ∙ at) in
    let first : drop (passed s) rest ≡ x.now ∷ iter_rest (step_by_source t) = ap (λ (k : ℕ). drop k rest) skip ∙ left seen _ u y ∙ next in
    let rest_is : passed t ≡ 1 = ap (λ (b : Bool). cond b 0 (step_by_gap t)) again ∙ gap ∙ one in
    (gap ∙ one, rw (first, rest_is) (groups-cons x.now (iter_rest (step_by_source t)))))

-- a scan that begins gives the groups of all bytes
pub scan_gives : (s : Scan) (bytes : List ℕ) → step_by_gap s ≡ 1 → IsTrue (step_by_first_take s) → iter_rest (step_by_source s) ≡ bytes
    → YieldsList (step_by_steps iter_steps) (λ (x : Bor ℕ). x.now) s (groups bytes)
scan_gives s bytes one first rest =
    let whole : shown s ≡ groups bytes =
    ap (λ (b : Bool). groups (drop (cond b 0 (step_by_gap s)) (iter_rest (step_by_source s)))) first ∙ ap groups rest
    in
    subst (YieldsList (step_by_steps iter_steps) (λ (x : Bor ℕ). x.now) s) whole (scanned s one)
