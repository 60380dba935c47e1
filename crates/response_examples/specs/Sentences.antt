-- Sentences about responses, in literal bytes. Each is drawn from a clause of the theorem on the reader (crate cdi_responses), or from the law that
-- its contract leaves one answer (crate cdi_decode). So a clause or a law that is made weaker no longer gives its sentence.
use Rattle.std.specs.Prelude.{ℕ, ◌+◌, ◌<◌, ◌≤◌, ◌≡◌, true, List, [], ◌∷◌, ◌++◌, length, take, drop, replicate, Err}
use Rattle.std.specs.Prelude as std
use Rattle.logic.specs.Lists.{part, Bytes}
use Rattle.refusal.specs.Refusal.{accepted, none}
use Rattle.cdi_frame.specs.declared.Span.{Span}
use Rattle.cdi_frame.specs.Layout.{response_frame}
use Rattle.cdi_decode.specs.declared.ResponseError.{ResponseError}
use Rattle.cdi_decode.specs.declared.ResponseError.TheVariants.{NoSuchResponse}
use Rattle.cdi_decode.specs.Decode.{response, no_response, decode_response, located, answered}
use Rattle.cdi_state.specs.declared.ModuleState.{ModuleState}
use Rattle.cdi_state.specs.State.{factory_state, ArrayLengths, FieldLengths}
use Rattle.cdi_valid.specs.Valid.{is_valid}
use Rattle.cdi_model.specs.Cells.{nv, working, tx_power_code, setting, input, slot, name, Cell, single, copy_of, is_cell}
use Rattle.cdi_model.specs.Values.{up_to_zero}
use Rattle.cdi_model.specs.Step.{request, command, responded}
use Rattle.cdi_module.specs.Module.{result_of}
use Rattle.cdi_module.specs.Machine.{cells}
use Rattle.cdi_responses.specs.Held.{ValidState}
use Rattle.cdi_responses.specs.Theorem.{Responds, Possible, Begun}

-- a response buffer before a call
abbrev pub unwritten : List ℕ
unwritten = replicate 22 0xEE

-- payloads that are sent: Reads of the name, the power, message select, the second input, the slot 27 and the status; a Write; Erase All Addresses
abbrev pub ask_name : List ℕ
ask_name = 0x01 ∷ 0x01 ∷ []

abbrev pub ask_power : List ℕ
ask_power = 0x01 ∷ 0x13 ∷ []

abbrev pub ask_message : List ℕ
ask_message = 0x01 ∷ 0x15 ∷ []

abbrev pub ask_input : List ℕ
ask_input = 0x01 ∷ 0x16 ∷ 0x02 ∷ []

abbrev pub ask_slot : List ℕ
ask_slot = 0x01 ∷ 0x18 ∷ 0x27 ∷ []

abbrev pub ask_status : List ℕ
ask_status = 0x01 ∷ 0x23 ∷ []

abbrev pub write_message : List ℕ
write_message = 0x02 ∷ 0x15 ∷ 0x03 ∷ []

-- a state, and what it makes of a Read of message select with sixteen wake bytes
pub record Exchange : Type 0 where
  pub state : ModuleState
  pub is_valid_lem : ValidState state
  pub result : result_of state (command (request ((0x80 ∷ replicate 16 0xFF) ++ 0x55 ∷ 0x82 ∷ 0x01 ∷ 0x15 ∷ []) unwritten))
      ≡ responded none 6 (0x80 ∷ 0x55 ∷ 0x83 ∷ 0xC1 ∷ 0x15 ∷ 0x06 ∷ replicate 16 0xEE)

-- the second input, from the host to the module in a state and back
pub record InputRead (s : ModuleState) : Type 0 where
  pub size : ℕ
  pub start : ℕ
  pub count : ℕ
  pub after : List ℕ
  pub result : result_of s (command (request (0x80 ∷ 0xFF ∷ 0x55 ∷ 0x83 ∷ 0x01 ∷ 0x16 ∷ 0x02 ∷ []) unwritten)) ≡ responded none size after
  pub decoded : decode_response ask_input (take size after) ≡ accepted (response start count)
  pub within : 3 + start + count ≡ size
  pub value : part (3 + start) count (take size after) ≡ cells s (copy_of working (input 2))

-- Erase All Addresses after sixteen wake bytes, with a response buffer, and back
pub record EchoRead (s : ModuleState) (buffer : List ℕ) : Type 0 where
  pub size : ℕ
  pub start : ℕ
  pub count : ℕ
  pub after : List ℕ
  pub result : result_of s (command (request ((0x80 ∷ replicate 16 0xFF) ++ 0x55 ∷ 0x81 ∷ 0x82 ∷ []) buffer)) ≡ responded none size after
  pub decoded : decode_response (0x82 ∷ []) (take size after) ≡ accepted (response start count)
  pub within : 3 + start + count ≡ size
  pub value : part (3 + start) count (take size after) ≡ 0x82 ∷ []

pub record Sentences : Type 0 where
  -- a valid state can respond with every accepted value, ...
  pub message-possible : (b : ℕ) → b ≤ 6 → Possible ask_message (0xC1 ∷ 0x15 ∷ b ∷ [])
  pub status-possible : Possible ask_status (0xC1 ∷ 0x23 ∷ 0x80 ∷ 0xFF ∷ 0xFF ∷ 0xFF ∷ [])
  pub name-possible : Possible ask_name (0xC1 ∷ 0x01 ∷ replicate 16 0x41 ++ 0x00 ∷ [])
  pub echo_possible : Possible write_message (0xC0 ∷ 0x00 ∷ 0x02 ∷ 0x15 ∷ 0x03 ∷ [])
  pub erase_possible : Possible (0x82 ∷ []) (0xC0 ∷ 0x00 ∷ 0x82 ∷ [])
  -- ... to a block with wake bytes too
  pub exchange : Exchange
  -- none responds with another value, ...
  pub message_impossible : (b : ℕ) → 7 ≤ b → b < 256 → Possible ask_message (0xC1 ∷ 0x15 ∷ b ∷ []) → ⊥
  pub echo_impossible : Possible write_message (0xC0 ∷ 0x00 ∷ 0x02 ∷ 0x15 ∷ []) → ⊥
  pub name_impossible : Possible ask_name (0xC1 ∷ 0x01 ∷ 0x41 ∷ 0x42 ∷ []) → ⊥
  -- what is read is what each such state holds
  pub power_told : (s : ModuleState) → ValidState s → Responds s ask_power (0xC1 ∷ 0x13 ∷ 0xEC ∷ []) → cells s (copy_of working (setting tx_power_code)) ≡ 0xEC ∷ []
  pub nv_power_told : (s : ModuleState) → ValidState s → Responds s (0x03 ∷ 0x13 ∷ []) (0xC2 ∷ 0x13 ∷ 0xEC ∷ []) → cells s (copy_of nv (setting tx_power_code)) ≡ 0xEC ∷ []
  pub slot_told : (s : ModuleState) → ValidState s → Responds s ask_slot (0xC1 ∷ 0x18 ∷ 0x27 ∷ 0x01 ∷ 0x02 ∷ 0x03 ∷ 0x04 ∷ 0x05 ∷ [])
      → cells s (copy_of nv (slot 39)) ≡ 0x01 ∷ 0x02 ∷ 0x03 ∷ 0x04 ∷ 0x05 ∷ []
  pub name-told : (s : ModuleState) → ValidState s → Responds s ask_name (0xC1 ∷ 0x01 ∷ 0x41 ∷ 0x00 ∷ []) → up_to_zero (cells s (single name)) ≡ 0x41 ∷ 0x00 ∷ []
  -- up to the place of the first wrong byte some response begins so, and with that byte none
  pub name-begins : Begun ask_name (0xC1 ∷ 0x01 ∷ 0x41 ∷ 0x00 ∷ [])
  pub name-ends : Begun ask_name (0xC1 ∷ 0x01 ∷ 0x41 ∷ 0x00 ∷ 0x42 ∷ []) → ⊥
  pub name_goes_on : Begun ask_name (0xC1 ∷ 0x01 ∷ 0x41 ∷ 0x42 ∷ [])
  pub slot_begins : Begun ask_slot (0xC1 ∷ 0x18 ∷ 0x27 ∷ 0x00 ∷ 0x00 ∷ 0x00 ∷ 0x00 ∷ [])
  pub slot_ends : Begun ask_slot (0xC1 ∷ 0x18 ∷ 0x27 ∷ 0x00 ∷ 0x00 ∷ 0x00 ∷ 0x00 ∷ 0x01 ∷ []) → ⊥
  pub status-ends : Begun ask_status (0xC1 ∷ 0x23 ∷ 0x40 ∷ []) → ⊥
  pub echo_ends : Begun write_message (0xC0 ∷ 0x00 ∷ 0x02 ∷ 0x15 ∷ 0x04 ∷ []) → ⊥
  -- a block that is read is the frame of such a payload
  pub block-possible : (block : List ℕ) → Bytes block → (start size : ℕ) → decode_response ask_message block ≡ accepted (response start size)
      → Possible ask_message (drop 3 block)
  pub block_within : (block : List ℕ) → Bytes block → (start size : ℕ) → decode_response ask_message block ≡ accepted (response start size)
      → 3 + start + size ≡ length block
  pub block_impossible : (block : List ℕ) → Bytes block → (place : ℕ) → decode_response ask_message block ≡ accepted (no_response place)
      → Possible ask_message (drop 3 block) → ⊥
  pub echo_told : (block : List ℕ) → Bytes block → (start size : ℕ) → decode_response write_message block ≡ accepted (response start size)
      → part (3 + start) size block ≡ write_message
  pub block-place : (block : List ℕ) → Bytes block → (place : ℕ) → decode_response ask_message block ≡ accepted (no_response place)
      → 3 + place ≤ length block
  -- the contract of the reader leaves one answer: where the first byte of a response is wrong, its place, and no refusal with 23
  pub one_answer : (r : std.Result Span ResponseError) → answered r ≡ located (decode_response ask_message (response_frame (0xC2 ∷ 0x15 ∷ 0x06 ∷ []))) → r ≡ Err (NoSuchResponse 0)
  pub one_echo : (r : std.Result Span ResponseError) → answered r ≡ located (decode_response write_message (response_frame (0xC1 ∷ 0x15 ∷ 0x03 ∷ []))) → r ≡ Err (NoSuchResponse 0)
  -- from every valid state the second input comes back as the state holds it
  pub input_back : (s : ModuleState) → ValidState s → InputRead s
  pub echo_back : (s : ModuleState) → ValidState s → (buffer : List ℕ) → 22 ≤ length buffer → EchoRead s buffer
  -- nothing more is asked of a valid state than that it is valid and that a program can have it; the factory state is one; what it responds once it responds always
  pub valid-enough : (s : ModuleState) → is_valid s ≡ true → ArrayLengths s → FieldLengths s → ((c : Cell) → is_cell c ≡ true → Bytes (cells s c)) → ValidState s
  pub factory_valid : ValidState factory_state
  pub factory_responds : Responds factory_state ask_message (0xC1 ∷ 0x15 ∷ 0x00 ∷ [])
