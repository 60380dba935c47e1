-- Document 01, "Items": what the state's parts are as bytes, the defaults and the factory state.
use Rattle.std.specs.Prelude.{ℕ, zero, suc, ◌+◌, ◌*◌, ◌<◌, ◌≡◌, List, [], ◌∷◌, ◌++◌, cond, eqb, ℤ, length, get_or, take, drop, replicate}
use Rattle.logic.specs.Signed.{signed}
use Rattle.cdi_item.specs.Items as item
use Rattle.cdi_state.specs.declared.Slot.{Slot}
use Rattle.cdi_state.specs.declared.AnalogInput.{AnalogInput}
use Rattle.cdi_state.specs.declared.Settings.{Settings}
use Rattle.cdi_state.specs.declared.Stored.{Stored}
use Rattle.cdi_state.specs.declared.ModuleState.{ModuleState}

-- the five bytes of a row of item 16, and of item 18
abbrev pub input_bytes : AnalogInput → List ℕ
input_bytes x = x.channel ∷ x.readings ∷ x.reference ∷ x.offset

abbrev pub slot_bytes : Slot → List ℕ
slot_bytes s = s.address ++ s.mask ∷ []

-- a row of five bytes as an input, and as a slot
abbrev pub input_in : List ℕ → AnalogInput
input_in row = record { channel = get_or row 0 0; readings = get_or row 1 0; reference = get_or row 2 0; offset = drop 3 row }

abbrev pub slot_in : List ℕ → Slot
slot_in row = record { address = take 4 row; mask = get_or row 4 0 }

-- an input's offset: two bytes, the high one first, in two's complement (house)
abbrev pub input_offset : AnalogInput → ℤ
input_offset x = signed 65536 (get_or (input_bytes x) 3 0 * 256 + get_or (input_bytes x) 4 0)

-- what stands for a row past the end of an array
abbrev pub no_input : AnalogInput
no_input = record { channel = 0; readings = 0; reference = 0; offset = [] }

abbrev pub no_slot : Slot
no_slot = record { address = []; mask = 0 }

-- the row of an input, by its number from 1 on
abbrev pub input_at : Settings → ℕ → AnalogInput
input_at t zero = no_input
input_at t (suc i) = get_or t.analog_inputs i no_input

-- the settings of one byte as a list, in the order of their items: 11 to 15, 25
abbrev pub setting_bytes : Settings → List ℕ
setting_bytes t =
    t.line_mask ∷ t.latch_mask ∷ t.tx_power ∷ t.control_source ∷ t.message_select ∷ t.interrupt_mask ∷ []

-- an item's place in that list; for a code that is none of them, the place behind the last
abbrev pub place : ℕ → ℕ
place code =
    cond (eqb code item.line_mask_code) 0
    (cond (eqb code item.latch_mask_code) 1
    (cond (eqb code item.tx_power_code) 2
    (cond (eqb code item.control_source_code) 3
    (cond (eqb code item.message_select_code) 4
    (cond (eqb code item.interrupt_mask_code) 5 6)))))

-- Set Default's values
abbrev pub default_input : AnalogInput
default_input = record { channel = 0xFF; readings = 0x01; reference = 0; offset = replicate 2 0 }

abbrev pub default_settings : Settings
default_settings = record {
  line_mask = 0;
  latch_mask = 0;
  tx_power = 0;
  control_source = 0x06;
  message_select = 0;
  analog_inputs = replicate item.input_count default_input;
  interrupt_mask = 0;
}

abbrev pub empty_slot : Slot
empty_slot = record { address = replicate 4 0; mask = 0 }

-- both RSSI bytes, as a power-up and the factory leave them
abbrev pub no_rssi : List ℕ
no_rssi = replicate 2 0x80

-- the settings as Set Default leaves them, RSSI 80 80, and every other byte 00
abbrev pub factory_state : ModuleState
factory_state = record {
  stored = record {
    name = replicate item.name_length 0;
    firmware = replicate 3 0;
    serial = replicate 4 0;
    address = replicate 4 0;
    settings = default_settings;
    slots = replicate item.slot_count empty_slot;
  };
  working = record { settings = default_settings };
  live = record {
    lines = replicate 2 0;
    rssi = no_rssi;
    ladj = 0;
    events = 0;
    flags = 0;
    hardware = record { power = 0; line_mask = 0; latch_mask = 0 };
  };
}

-- The lengths of the arrays of structs: a list of a definition can have any, a state of a program has these.
pub record ArrayLengths (s : ModuleState) : Type 0 where
  pub stored_inputs : length s.stored.settings.analog_inputs ≡ item.input_count
  pub working_inputs : length s.working.settings.analog_inputs ≡ item.input_count
  pub slot_count_lem : length s.stored.slots ≡ item.slot_count

-- the lengths of the arrays of bytes: in one copy of the settings, in the stored part, in the whole state
abbrev pub OffsetLengths : Settings → Type 0
OffsetLengths t = (i : ℕ) → i < item.input_count → length (get_or t.analog_inputs i no_input).offset ≡ 2

pub record StoredLengths (t : Stored) : Type 0 where
  pub name-length : length t.name ≡ item.name_length
  pub firmware-length : length t.firmware ≡ 3
  pub serial-length : length t.serial ≡ 4
  pub address-length : length t.address ≡ 4
  pub offset_length : OffsetLengths t.settings
  pub slot_address_length : (i : ℕ) → i < item.slot_count → length (get_or t.slots i no_slot).address ≡ 4

pub record FieldLengths (s : ModuleState) : Type 0 where
  pub stored-lengths : StoredLengths s.stored
  pub working_offset_length : OffsetLengths s.working.settings
  pub lines-length : length s.live.lines ≡ 2
  pub rssi-length : length s.live.rssi ≡ 2
