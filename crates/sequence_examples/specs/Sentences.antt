-- Document 01's demand 3 in sentences about calls of a module: what a sentence says, and when it holds from a state.
use Rattle.std.specs.Prelude.{ℕ, ◌≡◌, false, List, [], ◌∷◌, ◌++◌, map}
use Rattle.sequence.specs.Model.{Apart, stores_in}
use Rattle.sequence.specs.Machine.{run, results, given}
use Rattle.cdi_state.specs.declared.ModuleState.{ModuleState}
use Rattle.cdi_model.specs.Cells.{Cell}
use Rattle.cdi_model.specs.Step.{Step, power_up, StepResult, powered_up}
use Rattle.cdi_model.specs.Model.{model}
use Rattle.cdi_module.specs.Machine.{cells, machine}
use Rattle.cdi_module.specs.Module as Module
use Rattle.paper_examples.specs.Examples.{Expected, as_step, as_result}

-- a step, and the result that it is to have
pub record Call : Type 0 where
  pub step : Step
  pub result : StepResult

-- a command block, and what it gets
abbrev pub on : List ℕ → Expected → Call
on block expected = record { step = as_step block; result = as_result expected }

-- a power-up, and its number: 0 where it is accepted
abbrev pub powered : ℕ → Call
powered number = record { step = power_up; result = powered_up number }

abbrev pub steps : List Call → List Step
steps calls = map (λ (x : Call). x.step) calls

abbrev pub answers : List Call → List StepResult
answers calls = map (λ (x : Call). x.result) calls

pub data Sentence : Type 0 where
  -- after the calls, a cell holds these bytes
  leaves : (calls : List Call) (cell : Cell) (bytes : List ℕ) → Sentence
  -- the calls store these values in a cell, one after the other, and it holds the last
  stores_in_turn : (calls : List Call) (cell : Cell) (values : List (List ℕ)) (last : List ℕ) → Sentence
  -- one call stores these bytes in a cell, and the calls after it leave them there
  keeps : (before : List Call) (call : Call) (after : List Call) (cell : Cell) (bytes : List ℕ) → Sentence
  -- none of the calls alters a cell
  spares : (calls : List Call) (cell : Cell) → Sentence
  -- two neighbours can be exchanged: the final state is the same, and so is the result of each call
  exchanges : (before : List Call) (first second : Call) (after : List Call) → Sentence
  -- two neighbours share a cell that one of them stores in, so the theorem does not exchange them
  share_cell : (before : List Call) (first second : Call) → Sentence
  -- a call is refused: it stores in no cell, and the state is as it was
  refuses : (before : List Call) (call : Call) (after : List Call) → Sentence
  -- after the calls, the state is again the one before them, in every byte
  undo : (calls : List Call) → Sentence

-- the state after some calls
abbrev pub state_after : ModuleState → List Call → ModuleState
state_after s calls = run model machine s (steps calls)

-- each call has its result
abbrev pub Answered : ModuleState → List Call → Type 0
Answered s calls = results model machine s (steps calls) ≡ answers calls

abbrev pub Holds : ModuleState → Sentence → Type 0
Holds s (leaves calls c bytes) = (cells (state_after s calls) c ≡ bytes) × Answered s calls
Holds s (stores_in_turn calls c values last) =
    (given model machine s (steps calls) c ≡ values) × (cells (state_after s calls) c ≡ last) × Answered s calls
Holds s (keeps before x after c bytes) = (cells (state_after s (before ++ x ∷ after)) c ≡ bytes) × Answered s (before ++ x ∷ after)
Holds s (spares calls c) = (cells (state_after s calls) c ≡ cells s c) × Answered s calls
Holds s (exchanges before a b after) =
    (state_after s (before ++ b ∷ a ∷ after) ≡ state_after s (before ++ a ∷ b ∷ after))
    × Answered s (before ++ a ∷ b ∷ after) × Answered s (before ++ b ∷ a ∷ after)
Holds s (share_cell before a b) =
    (Apart model (cells (state_after s before)) a.step b.step → ⊥) × Answered s (before ++ a ∷ b ∷ [])
Holds s (refuses before x after) =
    ((c : Cell) → stores_in model (cells (state_after s before)) x.step c ≡ false)
    × (Module.step (state_after s before) x.step ≡ state_after s before)
    × Answered s (before ++ x ∷ after)
Holds s (undo calls) = (s ≡ state_after s calls) × Answered s calls

abbrev pub AllHold : ModuleState → List Sentence → Type 0
AllHold s [] = Unit {0}
AllHold s (x ∷ xs) = Holds s x × AllHold s xs
