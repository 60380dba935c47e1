-- Document 01, "Items", the valid state (01's "sound"). What an item accepts stands in the item list's crate alone.
use Rattle.std.specs.Prelude.{List, [], ◌∷◌, Bool, ◌&&◌, get_or}
use Rattle.logic.specs.Lists.{all, has_zero}
use Rattle.cdi_item.specs.Items.{tx_power_code, control_source_code, message_select_code, analog_input, paired_module}
use Rattle.cdi_item.specs.Values.{accepted_value, accepted_flags}
use Rattle.cdi_state.specs.declared.Slot.{Slot}
use Rattle.cdi_state.specs.declared.AnalogInput.{AnalogInput}
use Rattle.cdi_state.specs.declared.Settings.{Settings}
use Rattle.cdi_state.specs.declared.Stored.{Stored}
use Rattle.cdi_state.specs.declared.ModuleState.{ModuleState}
use Rattle.cdi_state.specs.State.{input_bytes, slot_bytes, no_input}

abbrev pub valid_input : AnalogInput → Bool
valid_input x = accepted_value analog_input (input_bytes x)

-- one copy of the settings: items 13, 14, 15 and both rows of 16 hold accepted values
abbrev pub valid_settings : Settings → Bool
valid_settings s =
    (((accepted_value tx_power_code (s.tx_power ∷ []) &&
    accepted_value control_source_code (s.control_source ∷ [])) &&
    accepted_value message_select_code (s.message_select ∷ [])) &&
    valid_input (get_or s.analog_inputs 0 no_input)) &&
    valid_input (get_or s.analog_inputs 1 no_input)

abbrev pub valid_slot : Slot → Bool
valid_slot s = accepted_value paired_module (slot_bytes s)

abbrev pub valid_slots : List Slot → Bool
valid_slots slots = all valid_slot slots

-- the stored part: the name has a 00, and the settings and all slots hold accepted values
abbrev pub valid_stored : Stored → Bool
valid_stored t = (has_zero t.name && valid_settings t.settings) && valid_slots t.slots

-- the stored part is valid, the working settings hold accepted values, and so do the flags
unfoldable pub is_valid : ModuleState → Bool
is_valid s = (valid_stored s.stored && valid_settings s.working.settings) && accepted_flags s.live.flags
