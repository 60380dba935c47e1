-- Document 01, "The book": what the reference model decides on a step, what the step gives the cells that it stores in, and its
-- result. The frame, the item list, the validation of a payload and a frame's layout are those of the crates below.
use Rattle.std.specs.Prelude.{ℕ, List, [], ◌∷◌, ◌++◌, Bool, cond, ◌&&◌, ltb, length, drop}
use Rattle.logic.specs.Lists.{all_below, has_zero}
use Rattle.logic.specs.Written.{written}
use Rattle.sequence.specs.Model.{Model}
use Rattle.refusal.specs.Refusal.{Result, accepted as acceptedAs, refused, none, invalid, response_buffer_short}
use Rattle.cdi_frame.specs.declared.Span.{Span}
use Rattle.cdi_frame.specs.Frame.{command_wake_limit, read_frame, payload_in}
use Rattle.cdi_frame.specs.Layout.{response_frame}
use Rattle.cdi_item.specs.Items.{slot_count}
use Rattle.cdi_command.specs.declared.Command.{Command}
use Rattle.cdi_command.specs.Command.{validate_payload}
use Rattle.cdi_command.specs.Payload.{read_response, read_nv_response, ack_response, no_error, response_buffer_min}
use Rattle.cdi_model.specs.Cells.{Copy, nv, working, line_mask_code, latch_mask_code, tx_power_code, control_source_code, message_select_code, interrupt_mask_code, Key, setting, input, slot, Single, name, firmware, serial, lines, rssi, ladj, events, flags, hardwarePower, hardwareLineMask, hardwareLatchMask, Cell, copy_of, single}
use Rattle.cdi_model.specs.Values.{byte_of, accepted, accepted_flags, default_value, empty_slot, no_rssi, up_to_zero, status_bytes}
use Rattle.cdi_model.specs.Step.{Step, power_up, command, StepResult, powered_up, responded}
use Rattle.cdi_model.specs.Action.{Action, read, read_nv, read_status, write, program, set_default, erase_all, action_of}
use Rattle.cdi_model.specs.Table.{Decision, refuse, execute, execute_power_up, is_accepted, reads, stores}

abbrev pub Cells : Type 0
Cells = Cell → List ℕ

-- ---- validity
abbrev pub holds_accepted : Cells → Copy → Key → Bool
holds_accepted s copy k = accepted k (s (copy_of copy k))

-- of items 13, 14, 15 and 16 the copy holds accepted values
abbrev pub valid_copy : Cells → Copy → Bool
valid_copy s copy =
    (((holds_accepted s copy (setting tx_power_code) && holds_accepted s copy (setting control_source_code)) &&
    holds_accepted s copy (setting message_select_code)) && holds_accepted s copy (input 1)) && holds_accepted s copy (input 2)

-- what is non-volatile: the name has a 00, and its copy of the settings and all slots hold accepted values
abbrev pub valid_stored : Cells → Bool
valid_stored s = (has_zero (s (single name)) && valid_copy s nv) && all_below slot_count (λ i. holds_accepted s nv (slot i))

-- and so do the working copy and the live flags
unfoldable pub is_valid : Cells → Bool
is_valid s = (valid_stored s && valid_copy s working) && accepted_flags (byte_of (s (single flags)))

-- ---- decisions, in the order of the refusals
-- those of the payload
abbrev pub decide_command : List ℕ → Result Command → Decision
decide_command payload (acceptedAs c) = execute payload (action_of c)
decide_command payload (refused n) = refuse n

unfoldable pub decide_payload : List ℕ → Decision
decide_payload payload = decide_command payload (validate_payload payload)

-- 3 to 6, then those of the payload
abbrev pub decide_frame : List ℕ → Result Span → Decision
decide_frame block (acceptedAs span) = decide_payload (payload_in block span)
decide_frame block (refused n) = refuse n

unfoldable pub decide_block : List ℕ → Decision
decide_block block = decide_frame block (read_frame command_wake_limit block)

-- 1 where the response buffer has no room for the longest response, 2, then those of the block; a power-up is refused with 2 alone
unfoldable pub decide : Cells → Step → Decision
decide s power_up = cond (is_valid s) execute_power_up (refuse invalid)
decide s (command r) =
    cond (ltb (length r.response) response_buffer_min) (refuse response_buffer_short)
    (cond (is_valid s) (decide_block r.block) (refuse invalid))

-- ---- what a step gives a cell that it stores in
abbrev pub default_of : Cell → List ℕ
default_of (copy_of copy k) = default_value k
default_of (single x) = []

abbrev pub action_gives : Action → Cell → List ℕ
action_gives (read d) c = []
action_gives (read_nv d) c = []
action_gives read_status c = []
action_gives (write k v) c = v
action_gives (program k v) c = v
action_gives set_default c = default_of c
action_gives erase_all c = empty_slot

-- RSSI 80 80, flags and events 00
abbrev pub single_at_power_up : Single → List ℕ
single_at_power_up name = []
single_at_power_up firmware = []
single_at_power_up serial = []
single_at_power_up lines = []
single_at_power_up rssi = no_rssi
single_at_power_up ladj = []
single_at_power_up events = 0x00 ∷ []
single_at_power_up flags = 0x00 ∷ []
single_at_power_up hardwarePower = []
single_at_power_up hardwareLineMask = []
single_at_power_up hardwareLatchMask = []

-- a working copy gets what the non-volatile one holds
abbrev pub power_up_gives : Cells → Cell → List ℕ
power_up_gives s (copy_of copy k) = s (copy_of nv k)
power_up_gives s (single x) = single_at_power_up x

unfoldable pub gives : Cells → Decision → Cell → List ℕ
gives s (refuse n) c = []
gives s (execute payload a) c = action_gives a c
gives s execute_power_up c = power_up_gives s c

-- ---- results
-- what a cell shows to a Read: a name ends with its first 00, any other cell is shown whole
abbrev pub shown_single : Single → List ℕ → List ℕ
shown_single name v = up_to_zero v
shown_single firmware v = v
shown_single serial v = v
shown_single lines v = v
shown_single rssi v = v
shown_single ladj v = v
shown_single events v = v
shown_single flags v = v
shown_single hardwarePower v = v
shown_single hardwareLineMask v = v
shown_single hardwareLatchMask v = v

abbrev pub shown : Cell → List ℕ → List ℕ
shown (copy_of copy k) v = v
shown (single x) v = shown_single x v

abbrev pub status_of : Cells → List ℕ
status_of s =
    status_bytes (byte_of (s (single flags))) (byte_of (s (single events))) (byte_of (s (copy_of working (setting interrupt_mask_code))))
    (byte_of (s (copy_of working (setting control_source_code))))
    (byte_of (s (copy_of working (setting tx_power_code)))) (byte_of (s (single hardwarePower)))
    (byte_of (s (copy_of working (setting line_mask_code)))) (byte_of (s (single hardwareLineMask)))
    (byte_of (s (copy_of working (setting latch_mask_code)))) (byte_of (s (single hardwareLatchMask)))

-- the value that an action reads
abbrev pub action_value : Cells → Action → List ℕ
action_value s (read d) = shown d (s d)
action_value s (read_nv d) = shown d (s d)
action_value s read_status = status_of s
action_value s (write k v) = []
action_value s (program k v) = []
action_value s set_default = []
action_value s erase_all = []

unfoldable pub value_read : Cells → Decision → List ℕ
value_read s (refuse n) = []
value_read s (execute payload a) = action_value s a
value_read s execute_power_up = []

-- the payload of a response. To a read command: its kind, then the command's payload without its code, which is the item and the index
-- if there is one, then the value. To any other command: two bytes, and its payload
unfoldable pub response_payload : List ℕ → Action → List ℕ → List ℕ
response_payload payload (read d) v = read_response ∷ drop 1 payload ++ v
response_payload payload (read_nv d) v = read_nv_response ∷ drop 1 payload ++ v
response_payload payload read_status v = read_response ∷ drop 1 payload ++ v
response_payload payload (write k w) v = ack_response ∷ no_error ∷ payload
response_payload payload (program k w) v = ack_response ∷ no_error ∷ payload
response_payload payload set_default v = ack_response ∷ no_error ∷ payload
response_payload payload erase_all v = ack_response ∷ no_error ∷ payload

abbrev pub refusal_by : Decision → ℕ
refusal_by (refuse n) = n
refusal_by (execute payload a) = none
refusal_by execute_power_up = none

-- a response is written from the first byte of its buffer on, and the bytes behind it stay
abbrev pub respond : List ℕ → List ℕ → StepResult
respond response frame = responded none (length frame) (written response frame)

-- a power-up is never decided on a block
unfoldable pub result_of : Step → Decision → List ℕ → StepResult
result_of power_up d v = powered_up (refusal_by d)
result_of (command r) (refuse n) v = responded n 0 r.response
result_of (command r) (execute payload a) v = respond r.response (response_frame (response_payload payload a v))
result_of (command r) execute_power_up v = responded none 0 r.response

-- ---- the model
abbrev pub model : Model
model = record {
  Cell = Cell;
  Value = List ℕ;
  Step = Step;
  Decision = Decision;
  StepResult = StepResult;
  decide = decide;
  is_accepted = is_accepted;
  result = λ s x. result_of x (decide s x) (value_read s (decide s x));
  gives = λ s x. gives s (decide s x);
  reads = reads;
  stores = stores;
}
