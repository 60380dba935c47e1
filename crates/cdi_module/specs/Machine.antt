-- What the reference model's cells hold in a state, and the module as the machine of the sequence theorem.
use Rattle.std.specs.Prelude.{ℕ, List, [], ◌∷◌, get_or}
use Rattle.sequence.specs.Machine.{Machine}
use Rattle.cdi_state.specs.declared.Settings.{Settings}
use Rattle.cdi_state.specs.declared.ModuleState.{ModuleState}
use Rattle.cdi_state.specs.State.{input_bytes, slot_bytes, input_at, no_slot, ArrayLengths}
use Rattle.cdi_model.specs.Cells.{nv, working, Setting, line_mask_code, latch_mask_code, tx_power_code, control_source_code, message_select_code, interrupt_mask_code, setting, input, slot, address, Single, name, firmware, serial, lines, rssi, ladj, events, flags, hardwarePower, hardwareLineMask, hardwareLatchMask, Cell, copy_of, single}
use Rattle.cdi_model.specs.Model.{model}
use Rattle.cdi_module.specs.Module.{step, result_of}

abbrev pub setting_held : Settings → Setting → ℕ
setting_held t line_mask_code = t.line_mask
setting_held t latch_mask_code = t.latch_mask
setting_held t tx_power_code = t.tx_power
setting_held t control_source_code = t.control_source
setting_held t message_select_code = t.message_select
setting_held t interrupt_mask_code = t.interrupt_mask

abbrev pub single_held : ModuleState → Single → List ℕ
single_held s name = s.stored.name
single_held s firmware = s.stored.firmware
single_held s serial = s.stored.serial
single_held s lines = s.live.lines
single_held s rssi = s.live.rssi
single_held s ladj = s.live.ladj ∷ []
single_held s events = s.live.events ∷ []
single_held s flags = s.live.flags ∷ []
single_held s hardwarePower = s.live.hardware.power ∷ []
single_held s hardwareLineMask = s.live.hardware.line_mask ∷ []
single_held s hardwareLatchMask = s.live.hardware.latch_mask ∷ []

-- every field of a state is a cell, or holds some cells
unfoldable pub cells : ModuleState → Cell → List ℕ
cells s (copy_of nv (setting x)) = setting_held s.stored.settings x ∷ []
cells s (copy_of nv (input n)) = input_bytes (input_at s.stored.settings n)
cells s (copy_of nv (slot i)) = slot_bytes (get_or s.stored.slots i no_slot)
cells s (copy_of nv address) = s.stored.address
cells s (copy_of working (setting x)) = setting_held s.working.settings x ∷ []
cells s (copy_of working (input n)) = input_bytes (input_at s.working.settings n)
cells s (copy_of working (slot i)) = []
cells s (copy_of working address) = []
cells s (single x) = single_held s x

-- `step` and `result_of` are those of the contracts of `execute` and `power_up`
abbrev pub machine : Machine model
machine = record { State = ModuleState; Admissible = ArrayLengths; cells = cells; step = step; result = result_of }
