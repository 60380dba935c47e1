-- The factory state's cells are those that the reference model has for it, and its arrays have their lengths.
-- Assumes nothing.

use mathlib.Core.Path.{◌≡◌, refl, ap}
use mathlib.Core.Bool.{true, false, and-eq-true_iff}
use borrow.Author.Tests.{ltb-true}
use lib.ListN.{get_or-replicate}
use Rattle.cdi_state.specs.State.{slot_bytes, no_slot, empty_slot, factory_state, ArrayLengths}
use Rattle.cdi_model.specs.Cells.{nv, working, line_mask_code, latch_mask_code, tx_power_code, control_source_code, message_select_code, interrupt_mask_code, setting, input, slot, address, name, firmware, serial, lines, rssi, ladj, events, flags, hardwarePower, hardwareLineMask, hardwareLatchMask, Cell, copy_of, single, is_key, is_cell}
use Rattle.cdi_model.specs.Factory.{factory_cells}
use Rattle.cdi_model.proofs.Validity.{each-input}
use Rattle.cdi_module.specs.Machine.{cells}

pub factory_lengths : ArrayLengths factory_state
factory_lengths = record { stored_inputs = refl; working_inputs = refl; slot_count_lem = refl }

pub factory_cells_lem : (c : Cell) → is_cell c ≡ true → cells factory_state c ≡ factory_cells c
unfolding cells
factory_cells_lem (copy_of nv (setting line_mask_code)) e = refl
factory_cells_lem (copy_of nv (setting latch_mask_code)) e = refl
factory_cells_lem (copy_of nv (setting tx_power_code)) e = refl
factory_cells_lem (copy_of nv (setting control_source_code)) e = refl
factory_cells_lem (copy_of nv (setting message_select_code)) e = refl
factory_cells_lem (copy_of nv (setting interrupt_mask_code)) e = refl
factory_cells_lem (copy_of nv (input n)) e = each-input (λ n. cells factory_state (copy_of nv (input n)) ≡ factory_cells (copy_of nv (input n))) refl refl n e
factory_cells_lem (copy_of nv (slot i)) e = ap slot_bytes (get_or-replicate 40 i empty_slot no_slot (ltb-true i 40 e))
factory_cells_lem (copy_of nv address) e = refl
factory_cells_lem (copy_of working (setting line_mask_code)) e = refl
factory_cells_lem (copy_of working (setting latch_mask_code)) e = refl
factory_cells_lem (copy_of working (setting tx_power_code)) e = refl
factory_cells_lem (copy_of working (setting control_source_code)) e = refl
factory_cells_lem (copy_of working (setting message_select_code)) e = refl
factory_cells_lem (copy_of working (setting interrupt_mask_code)) e = refl
factory_cells_lem (copy_of working (input n)) e =
    each-input (λ n. cells factory_state (copy_of working (input n)) ≡ factory_cells (copy_of working (input n))) refl refl n
    ((and-eq-true_iff (is_key (input n)) true).0 e).0
factory_cells_lem (copy_of working (slot i)) e = cc ((and-eq-true_iff (is_key (slot i)) false).0 e).1
factory_cells_lem (copy_of working address) e = cc
factory_cells_lem (single name) e = refl
factory_cells_lem (single firmware) e = refl
factory_cells_lem (single serial) e = refl
factory_cells_lem (single lines) e = refl
factory_cells_lem (single rssi) e = refl
factory_cells_lem (single ladj) e = refl
factory_cells_lem (single events) e = refl
factory_cells_lem (single flags) e = refl
factory_cells_lem (single hardwarePower) e = refl
factory_cells_lem (single hardwareLineMask) e = refl
factory_cells_lem (single hardwareLatchMask) e = refl
