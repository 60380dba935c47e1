-- Document 01, "Who reads and stores which cell": the table, by what is decided on a step.
use Rattle.std.specs.Prelude.{ℕ, List, Bool, true, false, ◌&&◌, ◌||◌}
use Rattle.cdi_model.specs.Cells.{Copy, nv, working, line_mask_code, latch_mask_code, tx_power_code, control_source_code, interrupt_mask_code, setting, input, slot, address, rssi, events, flags, hardwarePower, hardwareLineMask, hardwareLatchMask, Cell, copy_of, single, has_working, is_cell, same, same_copy}
use Rattle.cdi_model.specs.Action.{Action, read, read_nv, read_status, write, program, set_default, erase_all}

-- what is decided on a step: a refusal by its number, a command's payload and what it does, or a power-up
pub data Decision : Type 0 where
  refuse : ℕ → Decision
  execute : List ℕ → Action → Decision
  execute_power_up : Decision

abbrev pub is_accepted : Decision → Bool
is_accepted (refuse n) = false
is_accepted (execute payload a) = true
is_accepted execute_power_up = true

-- one copy of items 11 to 16 and 25: the keys that have both copies
abbrev pub in_copy : Copy → Cell → Bool
in_copy copy (copy_of c k) = same_copy copy c && has_working k
in_copy copy (single x) = false

abbrev pub is_slot : Cell → Bool
is_slot (copy_of c (setting s)) = false
is_slot (copy_of c (input n)) = false
is_slot (copy_of c (slot i)) = same_copy c nv
is_slot (copy_of c address) = false
is_slot (single x) = false

-- the cells that an action reads
abbrev pub action_reads : Action → Cell → Bool
action_reads (read d) c = same c d
action_reads (read_nv d) c = same c d
action_reads read_status c =
    same c (single flags) || (same c (single events)
    || (same c (single hardwarePower) || (same c (single hardwareLineMask) || (same c (single hardwareLatchMask)
    || (same c (copy_of working (setting line_mask_code)) || (same c (copy_of working (setting latch_mask_code))
    || (same c (copy_of working (setting tx_power_code)) || (same c (copy_of working (setting control_source_code))
    || same c (copy_of working (setting interrupt_mask_code))))))))))
action_reads (write k v) c = false
action_reads (program k v) c = false
action_reads set_default c = false
action_reads erase_all c = false

-- the cells that an action stores in
abbrev pub action_stores : Action → Cell → Bool
action_stores (read d) c = false
action_stores (read_nv d) c = false
action_stores read_status c = false
action_stores (write k v) c = same c (copy_of working k)
action_stores (program k v) c = (has_working k && same c (copy_of working k)) || same c (copy_of nv k)
action_stores set_default c = in_copy working c || in_copy nv c
action_stores erase_all c = is_slot c

abbrev pub power_up_stores : Cell → Bool
power_up_stores c = in_copy working c || (same c (single rssi) || (same c (single flags) || same c (single events)))

-- a refused step reads no cell and stores in none
unfoldable pub reads : Decision → Cell → Bool
reads (refuse n) c = false
reads (execute payload a) c = is_cell c && action_reads a c
reads execute_power_up c = is_cell c && in_copy nv c

unfoldable pub stores : Decision → Cell → Bool
stores (refuse n) c = false
stores (execute payload a) c = is_cell c && action_stores a c
stores execute_power_up c = is_cell c && power_up_stores c
