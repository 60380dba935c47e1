-- Document 01, "Command writer and stored image": the image of the stored part, what Save writes and what Load gives.
use Rattle.std.specs.Prelude.{ℕ, zero, suc, ◌+◌, cond, not, eqb, length, get_or, take, drop}
use mathlib.Core.List.{List, [], ◌∷◌, ◌++◌, flat_map}
use Rattle.logic.specs.Lists.{same_bytes, between}
use Rattle.refusal.specs.Refusal.{Result, accepted, refused, none, invalid, image_length, image_mark, image_version}
use Rattle.cdi_item.specs.Items.{row_length, slot_count}
use Rattle.cdi_state.specs.declared.Slot.{Slot}
use Rattle.cdi_state.specs.declared.Settings.{Settings}
use Rattle.cdi_state.specs.declared.Stored.{Stored}
use Rattle.cdi_state.specs.declared.ModuleState.{ModuleState}
use Rattle.cdi_state.specs.State.{input_bytes, slot_bytes, input_in, slot_in, input_at, setting_bytes}
use Rattle.cdi_valid.specs.Valid.{valid_stored, is_valid}
use Rattle.cdi_store.specs.Store.{state_at_power_up}

-- ---- the head of an image: the mark, then the version
-- SWB
abbrev pub mark : List ℕ
mark = 0x53 ∷ 0x57 ∷ 0x42 ∷ []

-- version 1, the high byte first
abbrev pub version1 : List ℕ
version1 = 0x00 ∷ 0x01 ∷ []

-- where the version starts, and where the head ends
abbrev pub version_at : ℕ
version_at = 3

abbrev pub head_size : ℕ
head_size = 5

-- ---- the contents of an image: 01's N cells, in item order
-- items 11 to 15: the settings of one byte without item 25
abbrev pub settings11_to15 : Settings → List ℕ
settings11_to15 x = take 5 (setting_bytes x)

-- 17 of name, 3, 4, 4, five of 11 to 15, two rows of 5, the 40 slots of 5, one of 25
unfoldable pub contents_of : Stored → List ℕ
contents_of t =
    t.name ++ t.firmware ++ t.serial ++ t.address ++ settings11_to15 t.settings ++
    input_bytes (input_at t.settings 1) ++ input_bytes (input_at t.settings 2) ++
    flat_map slot_bytes t.slots ++ t.settings.interrupt_mask ∷ []

-- ---- the image of version 1
abbrev pub image_of : Stored → List ℕ
image_of t = mark ++ version1 ++ contents_of t

abbrev pub contents_size : ℕ
contents_size = 244

abbrev pub image_v1_size : ℕ
image_v1_size = 249

-- ---- Save: refusals 17, 2. The whole state has to be valid
unfoldable pub saved : ModuleState → ℕ → Result (List ℕ)
saved s room =
    cond (not (eqb room image_v1_size)) (refused image_length)
    (cond (not (is_valid s)) (refused invalid) (accepted (image_of s.stored)))

-- ---- what contents are as a stored part
-- where each part of the contents starts, behind the one before
abbrev pub name_at : ℕ
name_at = 0

abbrev pub firmware_at : ℕ
firmware_at = 17

abbrev pub serial_at : ℕ
serial_at = 20

abbrev pub address_at : ℕ
address_at = 24

abbrev pub settings_at : ℕ
settings_at = 28

abbrev pub input1_at : ℕ
input1_at = 33

abbrev pub input2_at : ℕ
input2_at = 38

abbrev pub slots_at : ℕ
slots_at = 43

abbrev pub interrupt_mask_at : ℕ
interrupt_mask_at = 243

abbrev pub settings_in : List ℕ → Settings
settings_in contents = record {
  line_mask = get_or contents settings_at 0;
  latch_mask = get_or contents (settings_at + 1) 0;
  tx_power = get_or contents (settings_at + 2) 0;
  control_source = get_or contents (settings_at + 3) 0;
  message_select = get_or contents (settings_at + 4) 0;
  analog_inputs = input_in (between input1_at input2_at contents) ∷ input_in (between input2_at slots_at contents) ∷ [];
  interrupt_mask = get_or contents interrupt_mask_at 0;
}

-- so many slots, one row behind the other
unfoldable pub slots_in : ℕ → List ℕ → List Slot
slots_in zero rows = []
slots_in (suc n) rows = slot_in (take row_length rows) ∷ slots_in n (drop row_length rows)

-- what stands behind the contents is not looked at
unfoldable pub stored_in : List ℕ → Stored
stored_in contents = record {
  name = between name_at firmware_at contents;
  firmware = between firmware_at serial_at contents;
  serial = between serial_at address_at contents;
  address = between address_at settings_at contents;
  settings = settings_in contents;
  slots = slots_in slot_count (between slots_at interrupt_mask_at contents);
}

-- ---- Load: refusals 17, 18, 19, 2
-- the stored part is replaced, and then the module powers up
abbrev pub with_stored : ModuleState → Stored → ModuleState
with_stored s t = record { stored = t; working = s.working; live = s.live }

-- the contents alone are asked about: the state before may be invalid
abbrev pub stored_loaded : ModuleState → Stored → Result ModuleState
stored_loaded s t = cond (not (valid_stored t)) (refused invalid) (accepted (state_at_power_up (with_stored s t)))

unfoldable pub loaded : ModuleState → List ℕ → Result ModuleState
loaded s image =
    cond (not (eqb (length image) image_v1_size)) (refused image_length)
    (cond (not (same_bytes (between 0 version_at image) mark)) (refused image_mark)
    (cond (not (same_bytes (between version_at head_size image) version1)) (refused image_version)
    (stored_loaded s (stored_in (drop head_size image)))))

-- what a Load tells C: the state after it and 0, or the number of its refusal, which leaves the state
pub record Loaded : Type 0 where
  pub state : ModuleState
  pub refusal : ℕ

abbrev pub loaded_as : ModuleState → Result ModuleState → Loaded
loaded_as s (accepted t) = record { state = t; refusal = none }
loaded_as s (refused n) = record { state = s; refusal = n }
