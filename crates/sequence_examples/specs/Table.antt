-- The sentences, from three states: as a module leaves the factory, in use, and invalid. A block is given in every byte, and so is its
-- response; a refusal is named by document 01's number.
use Rattle.std.specs.Prelude.{ℕ, ◌≡◌, List, [], ◌∷◌, ◌++◌, map, replicate}
use Rattle.sequence.specs.Machine.{run}
use Rattle.cdi_item.specs.declared.Value.{Value}
use Rattle.cdi_item.specs.Values.{value_bytes}
use Rattle.cdi_state.specs.declared.ModuleState.{ModuleState}
use Rattle.cdi_state.specs.State.{default_settings, empty_slot, factory_state, ArrayLengths}
use Rattle.cdi_store.specs.Store.{setting_stored}
use Rattle.cdi_model.specs.Cells.{Copy, nv, working, message_select_code, setting, input, slot, events, hardwarePower, Cell, copy_of, single}
use Rattle.cdi_model.specs.Step.{Step}
use Rattle.cdi_model.specs.Model.{model}
use Rattle.cdi_module.specs.Machine.{cells, machine}
use Rattle.paper_examples.specs.Examples.{response, refusal, as_step}
use Rattle.sequence_examples.specs.Sentences.{Call, on, powered, Sentence, leaves, stores_in_turn, keeps, spares, exchanges, share_cell, refuses, undo, AllHold}

-- ---- calls
-- message select (15): a Program with 06, a Write with 03, a Write with 07 that is refused with 12, and reads of both copies, which
-- give the byte
abbrev program_message : Call
program_message = on (0x80 ∷ 0x55 ∷ 0x83 ∷ 0x04 ∷ 0x15 ∷ 0x06 ∷ []) (response (0x80 ∷ 0x55 ∷ 0x85 ∷ 0xC0 ∷ 0x00 ∷ 0x04 ∷ 0x15 ∷ 0x06 ∷ []))

abbrev write_message : Call
write_message = on (0x80 ∷ 0x55 ∷ 0x83 ∷ 0x02 ∷ 0x15 ∷ 0x03 ∷ []) (response (0x80 ∷ 0x55 ∷ 0x85 ∷ 0xC0 ∷ 0x00 ∷ 0x02 ∷ 0x15 ∷ 0x03 ∷ []))

abbrev write_message7 : Call
write_message7 = on (0x80 ∷ 0x55 ∷ 0x83 ∷ 0x02 ∷ 0x15 ∷ 0x07 ∷ []) (refusal 12)

abbrev read_message : ℕ → Call
read_message byte = on (0x80 ∷ 0x55 ∷ 0x82 ∷ 0x01 ∷ 0x15 ∷ []) (response (0x80 ∷ 0x55 ∷ 0x83 ∷ 0xC1 ∷ 0x15 ∷ byte ∷ []))

abbrev read_nv_message : ℕ → Call
read_nv_message byte = on (0x80 ∷ 0x55 ∷ 0x82 ∷ 0x03 ∷ 0x15 ∷ []) (response (0x80 ∷ 0x55 ∷ 0x83 ∷ 0xC2 ∷ 0x15 ∷ byte ∷ []))

-- a Write of TX power (13) with -20 dBm, and of the control source (14) with bits 0, 3 and 4 set
abbrev write_power : Call
write_power = on (0x80 ∷ 0x55 ∷ 0x83 ∷ 0x02 ∷ 0x13 ∷ 0xEC ∷ []) (response (0x80 ∷ 0x55 ∷ 0x85 ∷ 0xC0 ∷ 0x00 ∷ 0x02 ∷ 0x13 ∷ 0xEC ∷ []))

abbrev write_control : Call
write_control = on (0x80 ∷ 0x55 ∷ 0x83 ∷ 0x02 ∷ 0x14 ∷ 0x19 ∷ []) (response (0x80 ∷ 0x55 ∷ 0x85 ∷ 0xC0 ∷ 0x00 ∷ 0x02 ∷ 0x14 ∷ 0x19 ∷ []))

-- the status (23): flags, power, line mask, latch mask
abbrev read_status : (flags power line latch : ℕ) → Call
read_status flags power line latch =
    on (0x80 ∷ 0x55 ∷ 0x82 ∷ 0x01 ∷ 0x23 ∷ []) (response (0x80 ∷ 0x55 ∷ 0x86 ∷ 0xC1 ∷ 0x23 ∷ flags ∷ power ∷ line ∷ latch ∷ []))

-- a Write of the interrupt mask (25) with 02
abbrev write_interrupt : Call
write_interrupt = on (0x80 ∷ 0x55 ∷ 0x83 ∷ 0x02 ∷ 0x25 ∷ 0x02 ∷ []) (response (0x80 ∷ 0x55 ∷ 0x85 ∷ 0xC0 ∷ 0x00 ∷ 0x02 ∷ 0x25 ∷ 0x02 ∷ []))

-- the two analog inputs (16)
abbrev program_input1 : Call
program_input1 =
    on (0x80 ∷ 0x55 ∷ 0x88 ∷ 0x04 ∷ 0x16 ∷ 0x01 ∷ 0x04 ∷ 0x10 ∷ 0x01 ∷ 0x00 ∷ 0x02 ∷ [])
    (response (0x80 ∷ 0x55 ∷ 0x8A ∷ 0xC0 ∷ 0x00 ∷ 0x04 ∷ 0x16 ∷ 0x01 ∷ 0x04 ∷ 0x10 ∷ 0x01 ∷ 0x00 ∷ 0x02 ∷ []))

abbrev program_input2 : Call
program_input2 =
    on (0x80 ∷ 0x55 ∷ 0x88 ∷ 0x04 ∷ 0x16 ∷ 0x02 ∷ 0x07 ∷ 0x02 ∷ 0x00 ∷ 0xFF ∷ 0xFE ∷ [])
    (response (0x80 ∷ 0x55 ∷ 0x8A ∷ 0xC0 ∷ 0x00 ∷ 0x04 ∷ 0x16 ∷ 0x02 ∷ 0x07 ∷ 0x02 ∷ 0x00 ∷ 0xFF ∷ 0xFE ∷ []))

abbrev program_other2 : Call
program_other2 =
    on (0x80 ∷ 0x55 ∷ 0x88 ∷ 0x04 ∷ 0x16 ∷ 0x02 ∷ 0x05 ∷ 0x08 ∷ 0x01 ∷ 0x00 ∷ 0x00 ∷ [])
    (response (0x80 ∷ 0x55 ∷ 0x8A ∷ 0xC0 ∷ 0x00 ∷ 0x04 ∷ 0x16 ∷ 0x02 ∷ 0x05 ∷ 0x08 ∷ 0x01 ∷ 0x00 ∷ 0x00 ∷ []))

abbrev write_input2 : Call
write_input2 =
    on (0x80 ∷ 0x55 ∷ 0x88 ∷ 0x02 ∷ 0x16 ∷ 0x02 ∷ 0xFE ∷ 0x01 ∷ 0x01 ∷ 0x00 ∷ 0x00 ∷ [])
    (response (0x80 ∷ 0x55 ∷ 0x8A ∷ 0xC0 ∷ 0x00 ∷ 0x02 ∷ 0x16 ∷ 0x02 ∷ 0xFE ∷ 0x01 ∷ 0x01 ∷ 0x00 ∷ 0x00 ∷ []))

-- both as these Programs leave them
abbrev read_input1 : Call
read_input1 =
    on (0x80 ∷ 0x55 ∷ 0x83 ∷ 0x01 ∷ 0x16 ∷ 0x01 ∷ [])
    (response (0x80 ∷ 0x55 ∷ 0x88 ∷ 0xC1 ∷ 0x16 ∷ 0x01 ∷ 0x04 ∷ 0x10 ∷ 0x01 ∷ 0x00 ∷ 0x02 ∷ []))

abbrev read_nv_input2 : Call
read_nv_input2 =
    on (0x80 ∷ 0x55 ∷ 0x83 ∷ 0x03 ∷ 0x16 ∷ 0x02 ∷ [])
    (response (0x80 ∷ 0x55 ∷ 0x88 ∷ 0xC2 ∷ 0x16 ∷ 0x02 ∷ 0x07 ∷ 0x02 ∷ 0x00 ∷ 0xFF ∷ 0xFE ∷ []))

-- slots (18): a pack paired in slots 7 and 39, and a slot that is read, which gives the five bytes
abbrev program_slot7 : Call
program_slot7 =
    on (0x80 ∷ 0x55 ∷ 0x88 ∷ 0x04 ∷ 0x18 ∷ 0x07 ∷ 0x0A ∷ 0x0B ∷ 0x0C ∷ 0x0D ∷ 0xFF ∷ [])
    (response (0x80 ∷ 0x55 ∷ 0x8A ∷ 0xC0 ∷ 0x00 ∷ 0x04 ∷ 0x18 ∷ 0x07 ∷ 0x0A ∷ 0x0B ∷ 0x0C ∷ 0x0D ∷ 0xFF ∷ []))

abbrev program_slot39 : Call
program_slot39 =
    on (0x80 ∷ 0x55 ∷ 0x88 ∷ 0x04 ∷ 0x18 ∷ 0x27 ∷ 0x01 ∷ 0x02 ∷ 0x03 ∷ 0x04 ∷ 0x05 ∷ [])
    (response (0x80 ∷ 0x55 ∷ 0x8A ∷ 0xC0 ∷ 0x00 ∷ 0x04 ∷ 0x18 ∷ 0x27 ∷ 0x01 ∷ 0x02 ∷ 0x03 ∷ 0x04 ∷ 0x05 ∷ []))

abbrev read_slot7_empty : Call
read_slot7_empty =
    on (0x80 ∷ 0x55 ∷ 0x83 ∷ 0x01 ∷ 0x18 ∷ 0x07 ∷ [])
    (response (0x80 ∷ 0x55 ∷ 0x88 ∷ 0xC1 ∷ 0x18 ∷ 0x07 ∷ 0x00 ∷ 0x00 ∷ 0x00 ∷ 0x00 ∷ 0x00 ∷ []))

abbrev read_slot39 : Call
read_slot39 =
    on (0x80 ∷ 0x55 ∷ 0x83 ∷ 0x01 ∷ 0x18 ∷ 0x27 ∷ [])
    (response (0x80 ∷ 0x55 ∷ 0x88 ∷ 0xC1 ∷ 0x18 ∷ 0x27 ∷ 0x01 ∷ 0x02 ∷ 0x03 ∷ 0x04 ∷ 0x05 ∷ []))

-- Set Default (81) and Erase All Addresses (82)
abbrev set_default : Call
set_default = on (0x80 ∷ 0x55 ∷ 0x81 ∷ 0x81 ∷ []) (response (0x80 ∷ 0x55 ∷ 0x83 ∷ 0xC0 ∷ 0x00 ∷ 0x81 ∷ []))

abbrev erase_all : Call
erase_all = on (0x80 ∷ 0x55 ∷ 0x81 ∷ 0x82 ∷ []) (response (0x80 ∷ 0x55 ∷ 0x83 ∷ 0xC0 ∷ 0x00 ∷ 0x82 ∷ []))

-- ---- cells
abbrev working_message : Cell
working_message = copy_of working (setting message_select_code)

abbrev nv_message : Cell
nv_message = copy_of nv (setting message_select_code)

-- ---- from the factory state
abbrev pub factory_sentences : List Sentence
factory_sentences =
    -- a Program stores in both copies, and a Write over it in the working one alone
    leaves (program_message ∷ write_message ∷ []) working_message (0x03 ∷ []) ∷
    leaves (program_message ∷ write_message ∷ []) nv_message (0x06 ∷ []) ∷
    -- a power-up brings back what was programmed
    leaves (program_message ∷ write_message ∷ read_message 0x03 ∷ powered 0 ∷ read_message 0x06 ∷ []) working_message (0x06 ∷ []) ∷
    -- the last store counts, also if there are two stores in other cells between
    stores_in_turn (program_message ∷ write_power ∷ program_slot39 ∷ write_message ∷ read_message 0x03 ∷ []) working_message
    ((0x06 ∷ []) ∷ (0x03 ∷ []) ∷ []) (0x03 ∷ []) ∷
    stores_in_turn (program_message ∷ write_message ∷ write_message7 ∷ read_nv_message 0x06 ∷ []) nv_message ((0x06 ∷ []) ∷ []) (0x06 ∷ []) ∷
    -- a pack stays paired through Set Default, a Program of an input and a power-up
    keeps (program_slot39 ∷ []) program_slot7 (set_default ∷ program_input1 ∷ powered 0 ∷ []) (copy_of nv (slot 7))
    (0x0A ∷ 0x0B ∷ 0x0C ∷ 0x0D ∷ 0xFF ∷ []) ∷
    -- no command on the second input alters the first, in either copy
    spares (program_input2 ∷ write_input2 ∷ powered 0 ∷ program_input2 ∷ []) (copy_of nv (input 1)) ∷
    spares (program_input2 ∷ write_input2 ∷ program_input2 ∷ []) (copy_of working (input 1)) ∷
    -- Programs of the two inputs can be exchanged
    exchanges (program_slot7 ∷ []) program_input1 program_input2 (read_input1 ∷ read_nv_input2 ∷ []) ∷
    -- Set Default and Erase All Addresses can be exchanged
    exchanges (program_slot7 ∷ program_message ∷ []) set_default erase_all (read_message 0x00 ∷ read_slot7_empty ∷ []) ∷
    -- a power-up and a Program of a slot can be exchanged
    exchanges (program_message ∷ write_message ∷ []) (powered 0) program_slot39 (read_message 0x06 ∷ read_slot39 ∷ []) ∷
    -- a Write of message select and a Read of the status can be exchanged
    exchanges (write_control ∷ write_power ∷ []) write_message (read_status 0x00 0xEC 0x00 0x00) (read_message 0x03 ∷ []) ∷
    -- a refused Write and a power-up can be exchanged
    exchanges (program_message ∷ []) write_message7 (powered 0) (read_message 0x06 ∷ []) ∷
    -- these pairs share a cell: two Programs of one input, a Program and a Read of it, Set Default and a Write of a setting, Erase and a Program of a slot,
    -- a power-up and a Program of a setting, a Write of the control source and a Read of the status
    share_cell [] program_input2 program_other2 ∷
    share_cell [] program_input1 read_input1 ∷
    share_cell (program_message ∷ []) set_default write_message ∷
    share_cell (program_slot7 ∷ []) erase_all program_slot39 ∷
    share_cell (write_message ∷ []) (powered 0) program_message ∷
    share_cell (write_power ∷ []) write_control (read_status 0x00 0xEC 0x00 0x00) ∷
    -- a value that is not accepted leaves the state as it was
    refuses (program_message ∷ []) write_message7 (read_message 0x06 ∷ []) ∷
    -- Set Default takes back every setting, and Erase every pairing: nothing else of the commands is left
    undo (program_message ∷ program_input1 ∷ write_control ∷ set_default ∷ []) ∷
    undo (program_slot7 ∷ program_slot39 ∷ erase_all ∷ []) ∷
    []

-- ---- from a state in use: a name, a pack in slot 39, message select written, and live values
abbrev pub used_state : ModuleState
used_state = record {
  stored = record {
    name = 0x41 ∷ 0x42 ∷ replicate 15 0x00;
    firmware = 0x01 ∷ 0x02 ∷ 0x03 ∷ [];
    serial = 0x0A ∷ 0x0B ∷ 0x0C ∷ 0x0D ∷ [];
    address = 0x00 ∷ 0x12 ∷ 0x34 ∷ 0x56 ∷ [];
    settings = default_settings;
    slots = replicate 39 empty_slot ++ record { address = 0x01 ∷ 0x02 ∷ 0x03 ∷ 0x04 ∷ []; mask = 0x05 } ∷ [];
  };
  working = record { settings = setting_stored default_settings 0x15 0x03 };
  live = record {
    lines = 0x5A ∷ 0xA5 ∷ [];
    rssi = 0x12 ∷ 0x34 ∷ [];
    ladj = 0x77;
    events = 0x06;
    flags = 0x21;
    hardware = record { power = 0x11; line_mask = 0x22; latch_mask = 0x33 };
  };
}

abbrev pub used_sentences : List Sentence
used_sentences =
    -- the status shows an event once the interrupt mask has its bit; a power-up clears flags and events
    leaves
    (read_status 0x21 0x11 0x22 0x33 ∷ write_interrupt ∷ read_status 0xA1 0x11 0x22 0x33 ∷ powered 0 ∷ read_status 0x00 0x11 0x22 0x33 ∷ [])
    (single events) (0x00 ∷ []) ∷
    -- a pack stays paired where another one is paired, and where the settings go back to their defaults
    spares (program_slot7 ∷ set_default ∷ powered 0 ∷ read_slot39 ∷ []) (copy_of nv (slot 39)) ∷
    -- no command and no power-up alters what the hardware selects
    spares (program_message ∷ set_default ∷ erase_all ∷ powered 0 ∷ []) (single hardwarePower) ∷
    -- a Read and a Write of other settings can be exchanged
    exchanges (write_interrupt ∷ []) (read_message 0x03) write_power (powered 0 ∷ read_message 0x00 ∷ []) ∷
    -- a working copy that was written is what a power-up overwrites
    share_cell [] write_message (powered 0) ∷
    []

-- ---- from an invalid state: bit 3 of the flags is set
abbrev pub invalid_state : ModuleState
invalid_state = record {
  stored = used_state.stored;
  working = used_state.working;
  live = record { lines = 0x5A ∷ 0xA5 ∷ []; rssi = 0x12 ∷ 0x34 ∷ []; ladj = 0x77; events = 0x06; flags = 0x08; hardware = used_state.live.hardware };
}

-- a Read and Erase All Addresses, refused with 2
abbrev read_refused : Call
read_refused = on (0x80 ∷ 0x55 ∷ 0x82 ∷ 0x01 ∷ 0x15 ∷ []) (refusal 2)

abbrev erase_refused : Call
erase_refused = on (0x80 ∷ 0x55 ∷ 0x81 ∷ 0x82 ∷ []) (refusal 2)

abbrev pub invalid_sentences : List Sentence
invalid_sentences =
    -- every call is refused with 2, a power-up too, and nothing changes
    refuses [] erase_refused (powered 2 ∷ read_refused ∷ []) ∷
    refuses (read_refused ∷ []) (powered 2) (erase_refused ∷ []) ∷
    undo (erase_refused ∷ powered 2 ∷ read_refused ∷ []) ∷
    -- so any two can be exchanged
    exchanges (read_refused ∷ []) erase_refused (powered 2) (read_refused ∷ []) ∷
    []

-- ---- for every state, every number of commands and every value: the yard's own complaint
-- a Program of the second input
abbrev pub program_second : Value → Step
program_second v = as_step (0x80 ∷ 0x55 ∷ 0x88 ∷ 0x04 ∷ 0x16 ∷ 0x02 ∷ value_bytes v)

-- no number of them alters the first input, in either copy
abbrev pub FirstUnaltered : Type 0
FirstUnaltered =
    (s : ModuleState) → ArrayLengths s → (values : List Value) (copy : Copy)
    → cells (run model machine s (map program_second values)) (copy_of copy (input 1)) ≡ cells s (copy_of copy (input 1))

-- All sentences hold.
abbrev pub Sentences : Type 0
Sentences = AllHold factory_state factory_sentences × AllHold used_state used_sentences × AllHold invalid_state invalid_sentences
