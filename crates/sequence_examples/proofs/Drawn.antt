-- Each sentence is drawn from the sequence theorem. What is computed is the model's: its cells, its results, which steps are apart. The
-- theorem carries that over to the module.
-- Assumes nothing.
use mathlib.Core.Path.{◌≡◌, refl, sym, ap, ◌∙◌, subst, fun_ext}
use mathlib.Core.Bool.{Bool, true, false, true≢false}
use mathlib.Core.List.{List, [], ◌∷◌, ◌++◌, map-append}
use lib.ListN.{length}
use Rattle.sequence.specs.Model.{Apart, accepts, stores_in, next, after, results as modelResults, last_or, swap_at}
use Rattle.sequence.specs.Machine.{Claims, run, results, given}
use Rattle.sequence_examples.proofs.Computed.{some_stores, none-stores}
use Rattle.cdi_state.specs.declared.ModuleState.{ModuleState}
use Rattle.cdi_state.specs.State.{ArrayLengths}
use Rattle.cdi_model.specs.Cells.{Cell}
use Rattle.cdi_model.specs.Step.{StepResult}
use Rattle.cdi_model.specs.Model.{Cells, decide, model}
use Rattle.cdi_model.specs.Apart.{are_apart}
use Rattle.cdi_model.proofs.Apart.{apart_is_computed}
use Rattle.cdi_module.specs.Module as Module
use Rattle.cdi_module.specs.Machine.{cells, machine}
use Rattle.cdi_module.specs.Theorem.{SequenceTheorem}
use Rattle.sequence_examples.specs.Sentences.{Call, steps, answers, Sentence, leaves, stores_in_turn, keeps, spares, exchanges, share_cell, refuses, undo, state_after, Answered, Holds, AllHold}

-- ---- what is computed, from a state
-- the model's cells after some calls
abbrev cells_after : ModuleState → List Call → Cells
cells_after s calls = after model (cells s) (steps calls)

abbrev ModelAnswers : ModuleState → List Call → Type 0
ModelAnswers s calls = modelResults model (cells s) (steps calls) ≡ answers calls

-- whether two calls are apart after others
abbrev pair_apart : ModuleState → List Call → Call → Call → Bool
pair_apart s before a b = are_apart (decide (cells_after s before) a.step) (decide (next model (cells_after s before) a.step) b.step)

abbrev pub Computed : ModuleState → Sentence → Type 0
Computed s (leaves calls c bytes) = (cells_after s calls c ≡ bytes) × ModelAnswers s calls
Computed s (stores_in_turn calls c values last) =
    (given model machine s (steps calls) c ≡ values) × (last_or (cells s c) values ≡ last) × ModelAnswers s calls
Computed s (keeps before x rest c bytes) =
    (stores_in model (cells_after s before) x.step c ≡ true)
    × (some_stores model machine (Module.step (state_after s before) x.step) (steps rest) c ≡ false)
    × (model.gives (cells_after s before) x.step c ≡ bytes)
    × ModelAnswers s (before ++ x ∷ rest)
Computed s (spares calls c) = (some_stores model machine s (steps calls) c ≡ false) × ModelAnswers s calls
Computed s (exchanges before a b rest) = (pair_apart s before a b ≡ true) × ModelAnswers s (before ++ a ∷ b ∷ rest)
Computed s (share_cell before a b) = (pair_apart s before a b ≡ false) × ModelAnswers s (before ++ a ∷ b ∷ [])
Computed s (refuses before x rest) = (accepts model (cells_after s before) x.step ≡ false) × ModelAnswers s (before ++ x ∷ rest)
Computed s (undo calls) = ((c : Cell) → cells s c ≡ cells (state_after s calls) c) × ModelAnswers s calls

abbrev pub AllComputed : ModuleState → List Sentence → Type 0
AllComputed s [] = Unit {0}
AllComputed s (x ∷ xs) = Computed s x × AllComputed s xs

-- ---- lists of calls
split : (before rest : List Call) → steps (before ++ rest) ≡ steps before ++ steps rest
split before rest = map-append (λ (x : Call). x.step) before rest

swapped : (before : List Call) (a b : Call) (rest : List Call)
    → swap_at (length (steps before)) (answers (before ++ a ∷ b ∷ rest)) ≡ answers (before ++ b ∷ a ∷ rest)
unfolding swap_at
swapped [] a b rest = refl
swapped (x ∷ before) a b rest = ap (λ (l : List StepResult). x.result ∷ l) (swapped before a b rest)

-- ---- from the theorem
module _ (theorem : SequenceTheorem) (s : ModuleState) (h : ArrayLengths s) where
  claims : (calls : List Call) → Claims model machine s (steps calls)
  claims calls = theorem s h (steps calls)

  -- each call has the result that the model gives it, and the cells are the model's
  answered : (calls : List Call) → ModelAnswers s calls → Answered s calls
  answered calls e = (claims calls).agrees_with_model.1 ∙ e

  same-cells : (calls : List Call) → cells (state_after s calls) ≡ cells_after s calls
  same-cells calls = fun_ext (claims calls).agrees_with_model.0

  -- what holds of the model's cells after some calls holds of the module's
  carried : (P : Cells → Type 0) (calls : List Call) → P (cells_after s calls) → P (cells (state_after s calls))
  carried P calls p = subst P (sym (same-cells calls)) p

  pub drawn : (x : Sentence) → Computed s x → Holds s x
  drawn (leaves calls c bytes) p = ((claims calls).agrees_with_model.0 c ∙ p.0, answered calls p.1)
  drawn (stores_in_turn calls c values last) p = (
    p.0,
    (claims calls).last_store c ∙ ap (last_or (cells s c)) p.0 ∙ p.1,
    answered calls p.2,
  )
  drawn (keeps before x rest c bytes) p = (
    (claims (before ++ x ∷ rest)).stored_last (steps before) x.step (steps rest) c (split before (x ∷ rest))
        (carried (λ m. stores_in model m x.step c ≡ true) before p.0)
        (none-stores model machine (Module.step (state_after s before) x.step) (steps rest) c p.1)
        ∙ carried (λ m. model.gives m x.step c ≡ bytes) before p.2,
    answered (before ++ x ∷ rest) p.3,
  )
  drawn (spares calls c) p =
      ((claims calls).none-stored c (none-stores model machine s (steps calls) c p.0), answered calls p.1)
  drawn (exchanges before a b rest) p =
      let ab = before ++ a ∷ b ∷ rest in
      let ba = before ++ b ∷ a ∷ rest in
      let apart = carried (λ m. Apart model m a.step b.step) before ((apart_is_computed (cells_after s before) a.step b.step).0 p.0) in
      let both = (claims ab).exchange (steps before) a.step b.step (steps rest) (split before (a ∷ b ∷ rest)) apart in
      let there : steps ba ≡ steps before ++ b.step ∷ a.step ∷ steps rest = split before (b ∷ a ∷ rest) in (
        ap (run model machine s) there ∙ both.0,
        answered ab p.1,
        ap (results model machine s) there
            ∙ both.1
            ∙ ap (swap_at (length (steps before))) (answered ab p.1)
            ∙ swapped before a b rest,
      )
  drawn (share_cell before a b) p = (
    λ apart.
        let there = subst (λ m. Apart model m a.step b.step) (same-cells before) apart in
        true≢false (sym ((apart_is_computed (cells_after s before) a.step b.step).1 there) ∙ p.0),
    answered (before ++ a ∷ b ∷ []) p.1,
  )
  drawn (refuses before x rest) p =
      let both = (claims (before ++ x ∷ rest)).refused-stores-none (steps before) x.step (steps rest) (split before (x ∷ rest))
      (carried (λ m. accepts model m x.step ≡ false) before p.0) in
      (both.0, both.1, answered (before ++ x ∷ rest) p.1)
  drawn (undo calls) p = ((claims calls).nothing_hidden s h p.0, answered calls p.1)

  pub all-drawn : (xs : List Sentence) → AllComputed s xs → AllHold s xs
  all-drawn [] p = tt
  all-drawn (x ∷ xs) p = (drawn x p.0, all-drawn xs p.1)
