-- Document 01, "Items": the state after an accepted command, and after a power-up.
use Rattle.std.specs.Prelude.{ℕ, zero, suc, List, Bool, false, cond, not, eqb, get_or, take, set, replicate}
use Rattle.refusal.specs.Refusal.{Result, accepted, refused}
use Rattle.cdi_item.specs.declared.Value.{Value}
use Rattle.cdi_item.specs.Items as item
use Rattle.cdi_item.specs.Values.{value_bytes}
use Rattle.cdi_command.specs.declared.Index.{Index}
use Rattle.cdi_command.specs.declared.Index.TheVariants.{Slot as SlotAt, Input as InputAt}
use Rattle.cdi_command.specs.declared.Command.{Command}
use Rattle.cdi_command.specs.declared.Command.TheVariants.{Read, ReadIndexed, ReadNv, ReadNvIndexed, Write, WriteIndexed, Program, ProgramIndexed, SetDefault, EraseAll}
use Rattle.cdi_command.specs.Kind.{is_read}
use Rattle.cdi_state.specs.declared.AnalogInput.{AnalogInput}
use Rattle.cdi_state.specs.declared.Slot.{Slot}
use Rattle.cdi_state.specs.declared.Settings.{Settings}
use Rattle.cdi_state.specs.declared.Stored.{Stored}
use Rattle.cdi_state.specs.declared.Working.{Working}
use Rattle.cdi_state.specs.declared.Live.{Live}
use Rattle.cdi_state.specs.declared.ModuleState.{ModuleState}
use Rattle.cdi_state.specs.State.{input_in, slot_in, setting_bytes, place, default_settings, empty_slot, no_rssi}

-- ---- the stored part with something replaced that commands store in
abbrev pub replaced : Stored → (address : List ℕ) (settings : Settings) (slots : List Slot) → Stored
replaced t a x l = record {
  name = t.name;
  firmware = t.firmware;
  serial = t.serial;
  address = a;
  settings = x;
  slots = l;
}

abbrev pub with_address : Stored → List ℕ → Stored
with_address t a = replaced t a t.settings t.slots

abbrev pub with_settings : Stored → Settings → Stored
with_settings t x = replaced t t.address x t.slots

abbrev pub with_slots : Stored → List Slot → Stored
with_slots t l = replaced t t.address t.settings l

-- settings with the bytes of a list in the order of `setting_bytes`
abbrev pub with_bytes : Settings → List ℕ → Settings
with_bytes t l = record {
  line_mask = get_or l 0 0;
  latch_mask = get_or l 1 0;
  tx_power = get_or l 2 0;
  control_source = get_or l 3 0;
  message_select = get_or l 4 0;
  analog_inputs = t.analog_inputs;
  interrupt_mask = get_or l 5 0;
}

abbrev pub with_inputs : Settings → List AnalogInput → Settings
with_inputs t l = record {
  line_mask = t.line_mask;
  latch_mask = t.latch_mask;
  tx_power = t.tx_power;
  control_source = t.control_source;
  message_select = t.message_select;
  analog_inputs = l;
  interrupt_mask = t.interrupt_mask;
}

-- ---- a value in one copy of the settings; a code that is no setting's leaves them
unfoldable pub setting_stored : Settings → ℕ → ℕ → Settings
setting_stored t code byte = with_bytes t (set (setting_bytes t) (place code) byte)

abbrev pub input_from : Value → AnalogInput
input_from v = input_in (value_bytes v)

-- the row of an input, by its number from 1 on; a number that is no input's leaves them
abbrev pub input_stored : Settings → ℕ → AnalogInput → Settings
input_stored t zero x = t
input_stored t (suc i) x = with_inputs t (set t.analog_inputs i x)

abbrev pub address_from : Value → List ℕ
address_from v = take 4 (value_bytes v)

abbrev pub slot_from : Value → Slot
slot_from v = slot_in (value_bytes v)

-- ---- commands, part by part
-- Program stores in the stored part: in the address, a setting or a slot
abbrev pub plain_programmed : Stored → ℕ → Value → Stored
plain_programmed t code v =
    cond (eqb code item.address) (with_address t (address_from v)) (with_settings t (setting_stored t.settings code v.byte0))

abbrev pub slot_programmed : Stored → ℕ → Slot → Stored
slot_programmed t i x = with_slots t (set t.slots i x)

abbrev pub row_programmed : Stored → Index → Value → Stored
row_programmed t (SlotAt i) v = slot_programmed t i.0 (slot_from v)
row_programmed t (InputAt n) v = with_settings t (input_stored t.settings n.0 (input_from v))

abbrev pub stored_after : Stored → Command → Stored
stored_after t (Read x) = t
stored_after t (ReadIndexed x i) = t
stored_after t (ReadNv x) = t
stored_after t (ReadNvIndexed x i) = t
stored_after t (Write x v) = t
stored_after t (WriteIndexed x i v) = t
stored_after t (Program x v) = plain_programmed t x.code v
stored_after t (ProgramIndexed x i v) = row_programmed t i v
stored_after t SetDefault = with_settings t default_settings
stored_after t EraseAll = with_slots t (replicate item.slot_count empty_slot)

-- Write and Program store in the working settings. No slot is among them, nor the address, which is no setting
abbrev pub row_stored : Settings → Index → Value → Settings
row_stored x (SlotAt i) v = x
row_stored x (InputAt n) v = input_stored x n.0 (input_from v)

abbrev pub settings_after : Settings → Command → Settings
settings_after x (Read y) = x
settings_after x (ReadIndexed y i) = x
settings_after x (ReadNv y) = x
settings_after x (ReadNvIndexed y i) = x
settings_after x (Write y v) = setting_stored x y.code v.byte0
settings_after x (WriteIndexed y i v) = row_stored x i v
settings_after x (Program y v) = setting_stored x y.code v.byte0
settings_after x (ProgramIndexed y i v) = row_stored x i v
settings_after x SetDefault = default_settings
settings_after x EraseAll = x

abbrev pub working_after : Working → Command → Working
working_after w c = record { settings = settings_after w.settings c }

-- no command stores in the live part
abbrev pub state_after : ModuleState → Command → ModuleState
state_after s c = record { stored = stored_after s.stored c; working = working_after s.working c; live = s.live }

-- all commands but Read and Read NV store
abbrev pub stores : Command → Bool
stores c = not (is_read c)

-- a payload that was refused stores nothing
abbrev pub stores_for : Result Command → Bool
stores_for (accepted c) = stores c
stores_for (refused n) = false

abbrev pub state_for : ModuleState → Result Command → ModuleState
state_for s (accepted c) = state_after s c
state_for s (refused n) = s

-- a power-up makes the working part from the stored one, and sets both RSSI bytes to 80, events and flags to 00
abbrev pub working_at_power_up : Stored → Working
working_at_power_up t = record { settings = t.settings }

abbrev pub live_at_power_up : Live → Live
live_at_power_up l = record {
  lines = l.lines;
  rssi = no_rssi;
  ladj = l.ladj;
  events = 0x00;
  flags = 0x00;
  hardware = l.hardware;
}

abbrev pub state_at_power_up : ModuleState → ModuleState
state_at_power_up s = record { stored = s.stored; working = working_at_power_up s.stored; live = live_at_power_up s.live }
