-- Document 01, "Items": the bytes that a command reads, as the module has them in its state, and a value as it is written.
use Rattle.std.specs.Prelude.{ℕ, ◌≤◌, List, [], ◌∷◌, cond, eqb, ltb, get_or}
use Rattle.std.specs.Int.Bits.{bit_and, bit_or}
use Rattle.logic.specs.Lists.{part}
use Rattle.logic.specs.Written.{Writes}
use Rattle.cdi_item.specs.Items as item
use Rattle.cdi_item.specs.Bits.{power_from_setting, line_mask_from_setting, latch_mask_from_setting, event_flag}
use Rattle.cdi_command.specs.declared.Index.{Index}
use Rattle.cdi_command.specs.declared.Index.TheVariants.{Slot, Input}
use Rattle.cdi_command.specs.declared.Command.{Command}
use Rattle.cdi_command.specs.declared.Command.TheVariants.{Read, ReadIndexed, ReadNv, ReadNvIndexed, Write, WriteIndexed, Program, ProgramIndexed, SetDefault, EraseAll}
use Rattle.cdi_state.specs.declared.Settings.{Settings}
use Rattle.cdi_state.specs.declared.HardwareSelection.{HardwareSelection}
use Rattle.cdi_state.specs.declared.Stored.{Stored}
use Rattle.cdi_state.specs.declared.ModuleState.{ModuleState}
use Rattle.cdi_state.specs.State.{setting_bytes, place, input_bytes, slot_bytes, input_at, no_slot}

-- the byte of an item in one copy of the settings; nothing for a code that is no setting's
unfoldable pub setting_value : Settings → ℕ → List ℕ
setting_value t code = part (place code) 1 (setting_bytes t)

-- a name ends with its first 00
unfoldable pub name_shown : List ℕ → List ℕ
name_shown [] = []
name_shown (b ∷ bs) = cond (eqb b 0) (b ∷ []) (b ∷ name_shown bs)

-- item 23: the flags, with bit 7 where an event is in the interrupt mask; then power, line mask and latch mask, each of the
-- hardware where its bit of the control source is 0, else the working value
unfoldable pub status_shown : Settings → HardwareSelection → (flags events : ℕ) → List ℕ
status_shown t h flags events =
    cond (eqb (bit_and events t.interrupt_mask) 0) flags (bit_or flags event_flag) ∷
    cond (eqb (bit_and t.control_source power_from_setting) 0) h.power t.tx_power ∷
    cond (eqb (bit_and t.control_source line_mask_from_setting) 0) h.line_mask t.line_mask ∷
    cond (eqb (bit_and t.control_source latch_mask_from_setting) 0) h.latch_mask t.latch_mask ∷ []

-- an item that has no index, its settings of one copy
unfoldable pub plain_value : ModuleState → Settings → ℕ → List ℕ
plain_value s t code =
    cond (eqb code item.name) (name_shown s.stored.name)
    (cond (eqb code item.firmware) s.stored.firmware
    (cond (eqb code item.serial) s.stored.serial
    (cond (eqb code item.address) s.stored.address
    (cond (eqb code item.lines) s.live.lines
    (cond (eqb code item.rssi) s.live.rssi
    (cond (eqb code item.ladj) (s.live.ladj ∷ [])
    (cond (eqb code item.status) (status_shown s.working.settings s.live.hardware s.live.flags s.live.events)
    (cond (eqb code item.events) (s.live.events ∷ [])
    (setting_value t code)))))))))

-- a row of an indexed item; nothing where there is no such row
abbrev pub row_value : Stored → Settings → Index → List ℕ
row_value s t (Slot i) = cond (item.is_slot_index i.0) (slot_bytes (get_or s.slots i.0 no_slot)) []
row_value s t (Input n) = cond (item.is_input_number n.0) (input_bytes (input_at t n.0)) []

-- what a command reads: Read the working copy, Read NV the stored one, any other command nothing
abbrev pub value_read : ModuleState → Command → List ℕ
value_read s (Read x) = plain_value s s.working.settings x.code
value_read s (ReadIndexed x i) = row_value s.stored s.working.settings i
value_read s (ReadNv x) = plain_value s s.stored.settings x.code
value_read s (ReadNvIndexed x i) = row_value s.stored s.stored.settings i
value_read s (Write x v) = []
value_read s (WriteIndexed x i v) = []
value_read s (Program x v) = []
value_read s (ProgramIndexed x i v) = []
value_read s SetDefault = []
value_read s EraseAll = []

-- ---- a value as it is written
-- the longest value is a name
abbrev pub value_max : ℕ
value_max = item.name_length

-- the most bytes that a command can read
abbrev pub value_room : Command → ℕ
value_room (Read x) = value_max
value_room (ReadIndexed x i) = item.row_length
value_room (ReadNv x) = value_max
value_room (ReadNvIndexed x i) = item.row_length
value_room (Write x v) = 0
value_room (WriteIndexed x i v) = 0
value_room (Program x v) = 0
value_room (ProgramIndexed x i v) = 0
value_room SetDefault = 0
value_room EraseAll = 0

-- nothing is read into less room than the longest value has
abbrev pub value_into : (room : ℕ) → ModuleState → Command → List ℕ
value_into room s c = cond (ltb room value_max) [] (value_read s c)

-- a value written over the front of a buffer, of so many bytes at most
pub record Shows (most : ℕ) (value before after : List ℕ) (told : ℕ) : Type 0 where
  pub few : told ≤ most
  pub writes : Writes value before after told
