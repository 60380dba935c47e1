-- Document 01, "Items": what a command does, as cells see it.
use Rattle.std.specs.Prelude.{ℕ, List, cond, eqb}
use Rattle.cdi_item.specs.Items as item
use Rattle.cdi_command.specs.declared.Index.{Index}
use Rattle.cdi_command.specs.declared.Index.TheVariants.{Slot, Input}
use Rattle.cdi_command.specs.declared.Command.{Command}
use Rattle.cdi_command.specs.declared.Command.TheVariants.{Read, ReadIndexed, ReadNv, ReadNvIndexed, Write, WriteIndexed, Program, ProgramIndexed, SetDefault, EraseAll}
use Rattle.cdi_command.specs.Payload.{value_in}
use Rattle.cdi_model.specs.Cells.{nv, line_mask_code, latch_mask_code, tx_power_code, control_source_code, message_select_code, interrupt_mask_code, Key, setting, input, slot, address, Single, name, firmware, serial, lines, rssi, ladj, events, Cell, copy_of, single, read_copy}

-- where a Read answers from: a key's copy, a cell that no command stores in, or the status, which is no cell
pub data Source : Type 0 where
  held : Key → Source
  one : Single → Source
  status : Source

-- what an accepted command does
pub data Action : Type 0 where
  read read_nv : Cell → Action
  read_status : Action
  write program : Key → List ℕ → Action
  set_default erase_all : Action

-- the key of a code that is no item's: inputs count from 1, so it names no cell
abbrev pub no_key : Key
no_key = input 0

-- the items that can be stored and have no index
abbrev pub key_of : ℕ → Key
key_of code =
    cond (eqb code item.address) address
    (cond (eqb code item.line_mask_code) (setting line_mask_code)
    (cond (eqb code item.latch_mask_code) (setting latch_mask_code)
    (cond (eqb code item.tx_power_code) (setting tx_power_code)
    (cond (eqb code item.control_source_code) (setting control_source_code)
    (cond (eqb code item.message_select_code) (setting message_select_code)
    (cond (eqb code item.interrupt_mask_code) (setting interrupt_mask_code) no_key))))))

-- all items that have no index
abbrev pub source_of : ℕ → Source
source_of code =
    cond (eqb code item.name) (one name)
    (cond (eqb code item.firmware) (one firmware)
    (cond (eqb code item.serial) (one serial)
    (cond (eqb code item.lines) (one lines)
    (cond (eqb code item.rssi) (one rssi)
    (cond (eqb code item.ladj) (one ladj)
    (cond (eqb code item.status) status
    (cond (eqb code item.events) (one events)
    (held (key_of code)))))))))

-- the row that an index names: a slot's index from 0 on, an input's number from 1 on
abbrev pub row_of : Index → Key
row_of (Slot i) = slot i.0
row_of (Input n) = input n.0

abbrev pub read_from : Source → Action
read_from (held k) = read (copy_of (read_copy k) k)
read_from (one x) = read (single x)
read_from status = read_status

-- the status has no Read NV
abbrev pub read_nv_from : Source → Action
read_nv_from (held k) = read_nv (copy_of nv k)
read_nv_from (one x) = read_nv (single x)
read_nv_from status = read_status

unfoldable pub action_of : Command → Action
action_of (Read x) = read_from (source_of x.code)
action_of (ReadIndexed x i) = read_from (held (row_of i))
action_of (ReadNv x) = read_nv_from (source_of x.code)
action_of (ReadNvIndexed x i) = read_nv_from (held (row_of i))
action_of (Write x v) = write (key_of x.code) (value_in x v)
action_of (WriteIndexed x i v) = write (row_of i) (value_in x v)
action_of (Program x v) = program (key_of x.code) (value_in x v)
action_of (ProgramIndexed x i v) = program (row_of i) (value_in x v)
action_of SetDefault = set_default
action_of EraseAll = erase_all
