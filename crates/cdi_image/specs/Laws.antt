-- Document 01, "Command writer and stored image": which cells an image holds, what Save and Load are to each other, and what a Load
-- leaves of a state. With these nobody has to believe `stored_in`: an image that is loaded is the image of the state, and no other cell
-- is touched but by power-up.
use Rattle.std.specs.Prelude.{ℕ, ◌≡◌, Bool, true, false, cond, length, replicate}
use mathlib.Core.List.{List, [], ◌∷◌, ◌++◌, map, flat_map}
use Rattle.std.specs.Bool.{beq}
use Rattle.logic.specs.Lists.{below, all}
use Rattle.refusal.specs.Refusal.{accepted}
use Rattle.cdi_item.specs.Items.{input_count, slot_count}
use Rattle.cdi_state.specs.declared.Stored.{Stored}
use Rattle.cdi_state.specs.declared.ModuleState.{ModuleState}
use Rattle.cdi_state.specs.State.{default_settings, empty_slot, factory_state, StoredLengths}
use Rattle.cdi_valid.specs.Valid.{is_valid}
use Rattle.cdi_store.specs.Store.{setting_stored}
use Rattle.cdi_model.specs.Cells.{nv, working, line_mask_code, latch_mask_code, tx_power_code, control_source_code, message_select_code, interrupt_mask_code, setting, input, slot, address, Single, name, firmware, serial, lines, rssi, ladj, events, flags, hardwarePower, hardwareLineMask, hardwareLatchMask, Cell, copy_of, single}
use Rattle.cdi_model.specs.Table.{power_up_stores}
use Rattle.cdi_model.specs.Model.{power_up_gives}
use Rattle.cdi_model.specs.Tight.{every_cell, is_in, all_apart}
use Rattle.cdi_module.specs.Machine.{cells}
use Rattle.cdi_image.specs.Image.{contents_of, image_of, image_v1_size, saved, with_stored, loaded}

-- ---- the cells of an image
-- 01's N cells and the slots, in the order of their items
abbrev pub image_cells : List Cell
image_cells =
    single name ∷ single firmware ∷ single serial ∷ copy_of nv address ∷ copy_of nv (setting line_mask_code) ∷ copy_of nv (setting latch_mask_code) ∷
    copy_of nv (setting tx_power_code) ∷ copy_of nv (setting control_source_code) ∷ copy_of nv (setting message_select_code) ∷ copy_of nv (input 1) ∷
    copy_of nv (input 2) ∷ map (λ i. copy_of nv (slot i)) (below slot_count []) ++ copy_of nv (setting interrupt_mask_code) ∷ []

-- the contents are those cells, one behind the other. Every state of a program has this many slots
abbrev pub ContentsAreCells : Type 0
ContentsAreCells = (s : ModuleState) → length s.stored.slots ≡ slot_count → contents_of s.stored ≡ flat_map (cells s) image_cells

-- whether a cell is 01's N or a slot
abbrev pub single_in_image : Single → Bool
single_in_image name = true
single_in_image firmware = true
single_in_image serial = true
single_in_image lines = false
single_in_image rssi = false
single_in_image ladj = false
single_in_image events = false
single_in_image flags = false
single_in_image hardwarePower = false
single_in_image hardwareLineMask = false
single_in_image hardwareLatchMask = false

abbrev pub in_image : Cell → Bool
in_image (copy_of nv k) = true
in_image (copy_of working k) = false
in_image (single x) = single_in_image x

-- the image's list of cells has all of those, each once, and no other
pub record KeptCells : Type 0 where
  pub all-kept : all (λ c. beq (in_image c) (is_in c image_cells)) every_cell ≡ true
  pub no_others : all (λ c. is_in c every_cell) image_cells ≡ true
  pub each_once : all_apart image_cells ≡ true

-- a stored part in which no two cells hold the same
abbrev sample_stored : Stored
sample_stored = record {
  name = replicate 16 0x11 ++ 0x12 ∷ [];
  firmware = 0x21 ∷ 0x22 ∷ 0x23 ∷ [];
  serial = 0x31 ∷ 0x32 ∷ 0x33 ∷ 0x34 ∷ [];
  address = 0x41 ∷ 0x42 ∷ 0x43 ∷ 0x44 ∷ [];
  settings = record {
    line_mask = 0x51;
    latch_mask = 0x52;
    tx_power = 0x53;
    control_source = 0x54;
    message_select = 0x55;
    analog_inputs =
        record { channel = 0x61; readings = 0x62; reference = 0x63; offset = 0x64 ∷ 0x65 ∷ [] } ∷
        record { channel = 0x71; readings = 0x72; reference = 0x73; offset = 0x74 ∷ 0x75 ∷ [] } ∷ [];
    interrupt_mask = 0x56;
  };
  slots = map (λ i. record { address = i ∷ 0x82 ∷ 0x83 ∷ 0x84 ∷ []; mask = 0x85 }) (below slot_count []);
}

-- its contents: items 01, 02, 03 and 10; 11 to 15; both rows of 16; the slots; 25
abbrev sample_contents : List ℕ
sample_contents =
    replicate 16 0x11 ++ 0x12 ∷ 0x21 ∷ 0x22 ∷ 0x23 ∷ 0x31 ∷ 0x32 ∷ 0x33 ∷ 0x34 ∷ 0x41 ∷ 0x42 ∷ 0x43 ∷ 0x44 ∷
    0x51 ∷ 0x52 ∷ 0x53 ∷ 0x54 ∷ 0x55 ∷ 0x61 ∷ 0x62 ∷ 0x63 ∷ 0x64 ∷ 0x65 ∷ 0x71 ∷ 0x72 ∷ 0x73 ∷ 0x74 ∷ 0x75 ∷
    flat_map (λ i. i ∷ 0x82 ∷ 0x83 ∷ 0x84 ∷ 0x85 ∷ []) (below slot_count []) ++ 0x56 ∷ []

-- its image, and what the image's cells hold in a state that has it
abbrev pub SampleImage : Type 0
SampleImage = image_of sample_stored ≡ 0x53 ∷ 0x57 ∷ 0x42 ∷ 0x00 ∷ 0x01 ∷ sample_contents

abbrev pub sample_state : ModuleState
sample_state = with_stored factory_state sample_stored

abbrev pub SampleCells : Type 0
SampleCells = flat_map (cells sample_state) image_cells ≡ sample_contents

-- ---- Save and Load
-- what Save writes Load takes, on any state, and gives back the same cells. The lengths are those that every state of a program has
pub record Reloaded (s t : ModuleState) (image : List ℕ) : Type 0 where
  pub state : ModuleState
  pub taken : loaded t image ≡ accepted state
  pub same-cells : (c : Cell) → in_image c ≡ true → cells state c ≡ cells s c

abbrev pub SaveThenLoad : Type 0
SaveThenLoad =
    (s t : ModuleState)
    → length s.stored.settings.analog_inputs ≡ input_count → length s.stored.slots ≡ slot_count → StoredLengths s.stored
    → (image : List ℕ) → saved s image_v1_size ≡ accepted image → Reloaded s t image

-- what Load gives: a valid state, of which Save writes the same image; a cell that no image has is as it was, or as the reference
-- model's power-up stores it from the cells of the image
pub record AfterLoad (s : ModuleState) (image : List ℕ) (t : ModuleState) : Type 0 where
  pub valid : is_valid t ≡ true
  pub saved-again : saved t image_v1_size ≡ accepted image
  pub other-cells : (c : Cell) → in_image c ≡ false → cells t c ≡ cond (power_up_stores c) (power_up_gives (cells t) c) (cells s c)

abbrev pub LoadThenSave : Type 0
LoadThenSave = (s : ModuleState) (image : List ℕ) (t : ModuleState) → loaded s image ≡ accepted t → AfterLoad s image t

-- ---- both laws on bytes: a module in use is saved, and its image is loaded on another module
-- a name, a pack in slot 39, and message select 03
abbrev pub used_stored : Stored
used_stored = record {
  name = 0x41 ∷ 0x42 ∷ replicate 15 0x00;
  firmware = factory_state.stored.firmware;
  serial = factory_state.stored.serial;
  address = factory_state.stored.address;
  settings = setting_stored default_settings 0x15 0x03;
  slots = replicate 39 empty_slot ++ record { address = 0x01 ∷ 0x02 ∷ 0x03 ∷ 0x04 ∷ []; mask = 0x05 } ∷ [];
}

abbrev pub used_module : ModuleState
used_module = with_stored factory_state used_stored

-- the other one has live values of its own, and is invalid: bit 3 of its flags is set
abbrev pub other_module : ModuleState
other_module = record {
  stored = factory_state.stored;
  working = factory_state.working;
  live = record { lines = 0x5A ∷ 0xA5 ∷ []; rssi = 0x12 ∷ 0x34 ∷ []; ladj = 0x77; events = 0x06; flags = 0x08; hardware = factory_state.live.hardware };
}

pub record Moved : Type 0 where
  pub image : List ℕ
  pub after : ModuleState
  pub is_saved : saved used_module 249 ≡ accepted image
  pub is_loaded : loaded other_module image ≡ accepted after
  -- what was stored is there
  pub name-moved : cells after (single name) ≡ 0x41 ∷ 0x42 ∷ replicate 15 0x00
  pub pack_moved : cells after (copy_of nv (slot 39)) ≡ 0x01 ∷ 0x02 ∷ 0x03 ∷ 0x04 ∷ 0x05 ∷ []
  -- and in force: the module has powered up
  pub setting_in_force : cells after (copy_of working (setting message_select_code)) ≡ 0x03 ∷ []
  pub rssi-reset : cells after (single rssi) ≡ 0x80 ∷ 0x80 ∷ []
  pub flags_reset : cells after (single flags) ≡ 0x00 ∷ []
  -- what no image has is the other module's own
  pub lines_left : cells after (single lines) ≡ 0x5A ∷ 0xA5 ∷ []
  pub ladj-left : cells after (single ladj) ≡ 0x77 ∷ []
  -- the state is valid, and saved again it gives the same image
  pub is_valid_lem : is_valid after ≡ true
  pub is_saved_again : saved after 249 ≡ accepted image
