-- What the replay program prints, by the reference model alone: neither the state nor the functions of the module are named here.
use Rattle.std.specs.Prelude.{ℕ, ◌≡◌, List, [], ◌∷◌, ◌++◌, map}
use Rattle.sequence.specs.Model.{results}
use Rattle.hex_text.specs.Hex.{Line, block, not_hex, hex_line}
use Rattle.response_text.specs.Text.{not_hex_text, printed}
use Rattle.cdi_model.specs.Step.{Step, StepResult}
use Rattle.cdi_model.specs.Model.{model}
use Rattle.cdi_model.specs.Factory.{factory_cells}
use Rattle.replay_text.specs.Replay.{lines, block_step, result_text, replayed}

-- the steps that some lines stand for: a line that is not hex is no step
unfoldable pub steps : List Line → List Step
steps [] = []
steps (not_hex ∷ rest) = steps rest
steps (block bytes ∷ rest) = block_step bytes ∷ steps rest

-- the text for some lines, where each block takes the next of the results of their steps; there is one for each
unfoldable pub texts : List Line → List StepResult → List ℕ
texts [] results = []
texts (not_hex ∷ rest) results = printed not_hex_text ++ texts rest results
texts (block bytes ∷ rest) [] = []
texts (block bytes ∷ rest) (result ∷ results) = printed (result_text result) ++ texts rest results

-- the text for an input: its lines are read, and the reference model runs their blocks from the factory cells on
abbrev pub model_replayed : List ℕ → List ℕ
model_replayed input = texts (map hex_line (lines input)) (results model factory_cells (steps (map hex_line (lines input))))

-- For every input, whatever its length and its characters.
abbrev pub ReplayTheorem : Type 0
ReplayTheorem = (input : List ℕ) → replayed input ≡ model_replayed input
