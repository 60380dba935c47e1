-- Document 02, Ask 1: what the reader's answers mean, told by the module itself.
use Rattle.std.specs.Prelude.{ℕ, suc, ◌+◌, ◌<◌, ◌≤◌, ◌≡◌, List, cond, length, take}
use Rattle.logic.specs.Lists.{part, Bytes}
use Rattle.logic.specs.Written.{written}
use Rattle.refusal.specs.Refusal.{accepted, none}
use Rattle.cdi_frame.specs.Layout.{command_frame, response_frame}
use Rattle.cdi_frame.specs.Frame.{command_wake_limit}
use Rattle.cdi_command.specs.declared.Command.{Command}
use Rattle.cdi_command.specs.Command.{validate_payload}
use Rattle.cdi_command.specs.Payload.{response_buffer_min}
use Rattle.cdi_command.specs.Kind.{is_read}
use Rattle.cdi_host.specs.Encode.{encode_command}
use Rattle.cdi_decode.specs.Decode.{Reading, response, no_response, payload_start, read_payload, decode_response}
use Rattle.cdi_state.specs.declared.ModuleState.{ModuleState}
use Rattle.cdi_model.specs.Step.{request, command, responded}
use Rattle.cdi_model.specs.Action.{action_of}
use Rattle.cdi_model.specs.Model.{action_value}
use Rattle.cdi_module.specs.Module.{result_of}
use Rattle.cdi_module.specs.Machine.{cells}
use Rattle.cdi_responses.specs.Held.{ValidState}

-- in a state the module responds to a payload with a payload: the result of the command's frame, with so many wake bytes, is the response's
-- frame at the front of the response buffer
abbrev pub RespondsIn : (wakes : ℕ) (buffer : List ℕ) → ModuleState → (sent p : List ℕ) → Type 0
RespondsIn wakes buffer s sent p =
    result_of s (command (request (command_frame wakes sent) buffer)) ≡ responded none (length (response_frame p)) (written buffer (response_frame p))

-- so it is with every number of wake bytes and every buffer that the module takes
abbrev pub Responds : ModuleState → (sent p : List ℕ) → Type 0
Responds s sent p = (wakes : ℕ) (buffer : List ℕ) → wakes ≤ command_wake_limit → response_buffer_min ≤ length buffer → RespondsIn wakes buffer s sent p

-- some valid state makes the module respond so, ...
pub record Possible (sent p : List ℕ) : Type 0 where
  pub state : ModuleState
  pub is_valid_lem : ValidState state
  pub responds : Responds state sent p

-- ... or with a payload that begins so
pub record Begun (sent q : List ℕ) : Type 0 where
  pub whole : List ℕ
  pub possible : Possible sent whole
  pub begins : take (length q) whole ≡ q

-- what is told of a response: of a read the value that the reference model reads from the state's cells, of any other command the payload
-- that was sent
abbrev pub told : ModuleState → Command → (sent : List ℕ) → List ℕ
told s c sent = cond (is_read c) (action_value (cells s) (action_of c)) sent

-- What each reading of a payload means. A response is one that some valid state makes the module give; from the start on to its end it has, of
-- every valid state that does, what is to be told. No response is one that none makes it give; up to the place it begins as some response, and with the byte at
-- the place, if there is one, as none.
abbrev pub Means : Command → (sent p : List ℕ) → Reading → Type 0
Means c sent p (response start size) = Possible sent p × (start + size ≡ length p) × ((s : ModuleState) → ValidState s → Responds s sent p → part start size p ≡ told s c sent)
Means c sent p (no_response place) =
    (Possible sent p → ⊥) × Begun sent (take place p) × (place ≤ length p) × (place < length p → Begun sent (take (suc place) p) → ⊥)

-- of every payload that is accepted, and every payload of bytes that comes back
abbrev pub ReaderTheorem : Type 0
ReaderTheorem = (sent p : List ℕ) (c : Command) → validate_payload sent ≡ accepted c → Bytes p → Means c sent p (read_payload c p)

-- the same of the block that `decode_response` is handed: its refusals aside, it is the frame of such a payload
pub record Read (sent block : List ℕ) (r : Reading) : Type 0 where
  pub command : Command
  pub validated : validate_payload sent ≡ accepted command
  pub payload : List ℕ
  pub framed : block ≡ response_frame payload
  pub means : Means command sent payload r

abbrev pub BlockTheorem : Type 0
BlockTheorem = (sent block : List ℕ) → Bytes block → (r : Reading) → decode_response sent block ≡ accepted r → Read sent block r

-- From the host to the module and back: the host writes a payload as a frame; the module, in a valid state, responds to the frame; the host
-- reads the response and has what is to be told.
pub record FullCircle (payload frame buffer : List ℕ) (s : ModuleState) : Type 0 where
  pub sent : Command
  pub validated : validate_payload payload ≡ accepted sent
  -- the length of the response, and the response buffer afterwards
  pub size : ℕ
  pub after : List ℕ
  pub result : result_of s (command (request frame buffer)) ≡ responded none size after
  -- where the value is in the response
  pub start : ℕ
  pub count : ℕ
  pub decoded : decode_response payload (take size after) ≡ accepted (response start count)
  pub within : payload_start + start + count ≡ size
  pub value : part (payload_start + start) count (take size after) ≡ told s sent payload

abbrev pub EveryCircle : Type 0
EveryCircle = (payload : List ℕ) (wakes room : ℕ) (frame : List ℕ) → encode_command payload wakes room ≡ accepted frame
    → (s : ModuleState) → ValidState s → (buffer : List ℕ) → response_buffer_min ≤ length buffer → FullCircle payload frame buffer s
