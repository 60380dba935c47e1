-- A module in use is saved and its image loaded on another module, by both laws of the image.
-- Assumes nothing.
use mathlib.Core.Path.{refl, ◌∙◌}
use borrow.Author.Tests.{eqb-true}
use lib.Dec.{eqb}
use lib.ListN.{length, get_or}
use Rattle.logic.specs.Lists.{all_below}
use Rattle.logic.proofs.Below.{all-at}
use Rattle.cdi_item.specs.Values.{accepted_value}
use Rattle.cdi_state.specs.declared.ModuleState.{ModuleState}
use Rattle.cdi_state.specs.State.{no_input, no_slot, StoredLengths}
use Rattle.cdi_valid.specs.Valid.{is_valid}
use Rattle.cdi_store.specs.Store.{setting_stored}
use Rattle.cdi_model.specs.Cells.{nv, working, message_select_code, setting, slot, name, lines, rssi, ladj, flags, copy_of, single}
use Rattle.cdi_module.specs.Machine.{cells}
use Rattle.cdi_image.specs.Image.{image_of, saved}
use Rattle.cdi_image.specs.Laws.{Reloaded, AfterLoad, used_stored, used_module, other_module, Moved}
use Rattle.cdi_image.proofs.Laws.{save_then_load, load_then_save}

lengths : StoredLengths used_stored
unfolding setting_stored all_below
lengths = record {
  name-length = refl;
  firmware-length = refl;
  serial-length = refl;
  address-length = refl;
  offset_length = λ i below.
      eqb-true (length (get_or used_stored.settings.analog_inputs i no_input).offset) 2
      (all-at 2 (λ i. eqb (length (get_or used_stored.settings.analog_inputs i no_input).offset) 2) refl i below);
  slot_address_length = λ i below.
      eqb-true (length (get_or used_stored.slots i no_slot).address) 4
      (all-at 40 (λ i. eqb (length (get_or used_stored.slots i no_slot).address) 4) refl i below);
}

reloaded : Reloaded used_module other_module (image_of used_stored)
unfolding saved is_valid accepted_value setting_stored
reloaded = save_then_load used_module other_module refl refl lengths (image_of used_stored) refl

-- the state that the Load gives
abbrev after : ModuleState
after = reloaded.state

loaded_on : AfterLoad other_module (image_of used_stored) after
loaded_on = load_then_save other_module (image_of used_stored) after reloaded.taken

pub moved : Moved
unfolding cells saved is_valid accepted_value setting_stored
moved = record {
  image = image_of used_stored;
  after = after;
  is_saved = refl;
  is_loaded = reloaded.taken;
  name-moved = reloaded.same-cells (single name) refl;
  pack_moved = reloaded.same-cells (copy_of nv (slot 39)) refl;
  setting_in_force =
      loaded_on.other-cells (copy_of working (setting message_select_code)) refl ∙ reloaded.same-cells (copy_of nv (setting message_select_code)) refl;
  rssi-reset = loaded_on.other-cells (single rssi) refl;
  flags_reset = loaded_on.other-cells (single flags) refl;
  lines_left = loaded_on.other-cells (single lines) refl;
  ladj-left = loaded_on.other-cells (single ladj) refl;
  is_valid_lem = loaded_on.valid;
  is_saved_again = loaded_on.saved-again;
}
