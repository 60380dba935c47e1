-- Document 01, "Examples": the replay program's input as lines, and the text that is printed for them.
use Rattle.std.specs.Prelude.{ℕ, cond, List, [], ◌∷◌, ◌++◌, eqb, take, replicate}
use Rattle.hex_text.specs.Hex.{Line, block, not_hex, hex_line, line_feed}
use Rattle.response_text.specs.Text.{text_in_hex, refused_text, not_hex_text, printed}
use Rattle.cdi_command.specs.Payload.{response_buffer_min}
use Rattle.cdi_state.specs.declared.ModuleState.{ModuleState}
use Rattle.cdi_state.specs.State.{factory_state}
use Rattle.cdi_model.specs.Step.{Step, request, command, StepResult, powered_up, responded}
use Rattle.cdi_module.specs.Module.{step, result_of}

-- ---- the lines of an input
-- a character before the first line, which it makes up alone where there is none
abbrev pub longer : ℕ → List (List ℕ) → List (List ℕ)
longer c [] = (c ∷ []) ∷ []
longer c (line ∷ rest) = (c ∷ line) ∷ rest

-- a line ends at its line feed, which the last may be without; behind a last line feed no further line begins
unfoldable pub lines : List ℕ → List (List ℕ)
lines [] = []
lines (c ∷ chars) = cond (eqb c line_feed) ([] ∷ lines chars) (longer c (lines chars))

-- ---- one line
-- the step of a block: each has a response buffer of its own
abbrev pub block_step : List ℕ → Step
block_step bytes = command (request bytes (replicate response_buffer_min 0))

-- the response as hex, or `refused` and the number: a refusal has the length 0
abbrev pub outcome_text : (refusal size : ℕ) (response : List ℕ) → List ℕ
outcome_text refusal size response = cond (eqb size 0) (refused_text refusal) (text_in_hex (take size response))

-- no line stands for a power-up; one would print its number
abbrev pub result_text : StepResult → List ℕ
result_text (powered_up refusal) = refused_text refusal
result_text (responded refusal size response) = outcome_text refusal size response

-- what is printed for a line: `not hex` where it is none
abbrev pub line_text : ModuleState → Line → List ℕ
line_text state not_hex = not_hex_text
line_text state (block bytes) = result_text (result_of state (block_step bytes))

-- the state after a line: a line that is not hex is no step
abbrev pub line_state : ModuleState → Line → ModuleState
line_state state not_hex = state
line_state state (block bytes) = step state (block_step bytes)

-- ---- all lines
-- what is printed for some lines, each run on the state that those before it leave
unfoldable pub lines_text : ModuleState → List (List ℕ) → List ℕ
lines_text state [] = []
lines_text state (line ∷ rest) = printed (line_text state (hex_line line)) ++ lines_text (line_state state (hex_line line)) rest

-- the state after them
unfoldable pub lines_state : ModuleState → List (List ℕ) → ModuleState
lines_state state [] = state
lines_state state (line ∷ rest) = lines_state (line_state state (hex_line line)) rest

-- what is printed for an input from a state on, and the state at its end
abbrev pub replayed_from : ModuleState → List ℕ → List ℕ
replayed_from state input = lines_text state (lines input)

abbrev pub state_at_end : ModuleState → List ℕ → ModuleState
state_at_end state input = lines_state state (lines input)

-- what the replay program prints for an input: it begins with the factory state
abbrev pub replayed : List ℕ → List ℕ
replayed input = replayed_from factory_state input
