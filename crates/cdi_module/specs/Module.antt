-- Document 01, "Numbers that a refusal carries" (the unit, power-up): what the module decides on a step, and the state and the
-- result by that decision. The contracts of the entries cite `step` and `result_of`; the sequence theorem holds them against the
-- reference model. Those of the functions that the entries are made of cite `decide_given` and `responded_to`.
use Rattle.std.specs.Prelude.{ℕ, List, Bool, cond, ltb, length, Ok, Err}
use Rattle.std.specs.Prelude as std
use Rattle.logic.specs.Written.{written}
use Rattle.refusal.specs.declared.Refusal.{Refusal}
use Rattle.refusal.specs.Refusal.{Result, accepted, refused, and_then, none, invalid, response_buffer_short}
use Rattle.refusal.specs.Numbers.{outcome_from, outcome_by}
use Rattle.cdi_frame.specs.Frame.{command_wake_limit, read_frame, payload_in}
use Rattle.cdi_frame.specs.Layout.{response_frame}
use Rattle.cdi_command.specs.declared.Command.{Command}
use Rattle.cdi_command.specs.Command.{validate_payload}
use Rattle.cdi_command.specs.Payload.{command_payload, response_payload, response_buffer_min}
use Rattle.cdi_state.specs.declared.ModuleState.{ModuleState}
use Rattle.cdi_valid.specs.Valid.{is_valid}
use Rattle.cdi_store.specs.Store.{state_after, state_at_power_up}
use Rattle.cdi_value.specs.Value.{value_read}
use Rattle.cdi_model.specs.Step.{Step, power_up, command, StepResult, powered_up, responded}

pub data Decision : Type 0 where
  refuse : ℕ → Decision
  execute : Command → Decision
  execute_power_up : Decision

-- a command that was validated, or the number of its refusal
abbrev pub decided : Result Command → Decision
decided (accepted c) = execute c
decided (refused n) = refuse n

-- refusals 3 to 12: the frame's, then the payload's
unfoldable pub command_in : List ℕ → Result Command
command_in block = and_then (read_frame command_wake_limit block) (λ span. validate_payload (payload_in block span))

-- refusals 1 and 2 stand before those of the block, given whether the state is valid and how long the response buffer is
abbrev pub decide_given : (valid : Bool) (room : ℕ) → List ℕ → Decision
decide_given valid room block = cond (ltb room response_buffer_min) (refuse response_buffer_short) (cond valid (decided (command_in block)) (refuse invalid))

-- of a power-up there is 2 alone
unfoldable pub decide : ModuleState → Step → Decision
decide s power_up = cond (is_valid s) execute_power_up (refuse invalid)
decide s (command r) = decide_given (is_valid s) (length r.response) r.block

-- the state by the decision: a refusal changes nothing
abbrev pub state_by : ModuleState → Decision → ModuleState
state_by s (refuse n) = s
state_by s (execute c) = state_after s c
state_by s execute_power_up = state_at_power_up s

-- the response to a command with a value, ...
abbrev pub response_with : Command → List ℕ → List ℕ
response_with c value = response_frame (response_payload (command_payload c) value)

-- ... which is read from the state as the command found it
abbrev pub response_to : ModuleState → Command → List ℕ
response_to s c = response_with c (value_read s c)

-- the result by the decision: a refusal has the length 0 and writes nothing; a power-up is never decided on a block
abbrev pub block_result : ModuleState → List ℕ → Decision → StepResult
block_result s response (refuse n) = responded n 0 response
block_result s response (execute c) = responded none (length (response_to s c)) (written response (response_to s c))
block_result s response execute_power_up = responded none 0 response

abbrev pub refusal_by : Decision → ℕ
refusal_by (refuse n) = n
refusal_by (execute c) = none
refusal_by execute_power_up = none

abbrev pub result_by : ModuleState → Step → Decision → StepResult
result_by s power_up d = powered_up (refusal_by d)
result_by s (command r) d = block_result s r.response d

unfoldable pub step : ModuleState → Step → ModuleState
step s x = state_by s (decide s x)

unfoldable pub result_of : ModuleState → Step → StepResult
result_of s x = result_by s x (decide s x)

-- what `respond` answers to what was decided on some block: 1 stands before all else
abbrev pub responded_to : ModuleState → Result Command → List ℕ → StepResult
responded_to s r response =
    cond (ltb (length response) response_buffer_min) (responded response_buffer_short 0 response) (block_result s response (decided r))

-- how many bytes it answers with, or the number of the refusal; so a refusal with the number 0, which the result tells as it tells no refusal, is one
abbrev pub length_responded : ModuleState → Result Command → List ℕ → Result ℕ
length_responded s r response =
    cond (ltb (length response) response_buffer_min) (refused response_buffer_short) (and_then r (λ c. accepted (length (response_to s c))))

-- ---- what the answers of the source tell
-- of a block: the number of the refusal or none, the length of the response, and the buffer afterwards
abbrev pub told : std.Result ℕ Refusal → List ℕ → StepResult
told r response = responded (outcome_from r).refusal (outcome_from r).length response

-- the same of a block whose refusal may be any value with a number
abbrev pub told_by : {E : Type 0} → (E → ℕ) → std.Result ℕ E → List ℕ → StepResult
told_by number r response = responded (outcome_by number r).refusal (outcome_by number r).length response

-- of a power-up: the state after it. A refusal leaves the state
abbrev pub state_left : ModuleState → std.Result ModuleState Refusal → ModuleState
state_left s (Ok after) = after
state_left s (Err e) = s
