-- Document 01, "Who reads and stores which cell": the 68 cells.
use Rattle.std.specs.Prelude.{ℕ, Bool, true, false, cond, ◌&&◌, eqb}
use Rattle.cdi_item.specs.Items.{is_slot_index, is_input_number}

-- 01's N, the non-volatile copy, and V, the working one
pub data Copy : Type 0 where
  nv working : Copy

-- the settings of one byte, items 11 to 15 and 25
pub data Setting : Type 0 where
  line_mask_code latch_mask_code tx_power_code control_source_code message_select_code interrupt_mask_code : Setting

-- what Write and Program store under: a setting, an input by its number, a slot by its index, or the address
pub data Key : Type 0 where
  setting : Setting → Key
  input slot : ℕ → Key
  address : Key

-- what no command stores in: items 01, 02 and 03, the live items 20, 21, 22 and 26, the flags, and what the hardware selects
pub data Single : Type 0 where
  name firmware serial lines rssi ladj events flags hardwarePower hardwareLineMask hardwareLatchMask : Single

-- 01's "cell": a copy of what has a key, or one that no command stores in
pub data Cell : Type 0 where
  copy_of : Copy → Key → Cell
  single : Single → Cell

-- settings and inputs have a working copy; a slot is one cell, and so is the address
abbrev pub has_working : Key → Bool
has_working (setting s) = true
has_working (input n) = true
has_working (slot i) = false
has_working address = false

-- Read of an item that has no working copy gives the non-volatile one
abbrev pub read_copy : Key → Copy
read_copy k = cond (has_working k) working nv

-- two inputs, from 1 on, and forty slots, from 0 on; a key with another number names no cell
abbrev pub is_key : Key → Bool
is_key (setting s) = true
is_key (input n) = is_input_number n
is_key (slot i) = is_slot_index i
is_key address = true

abbrev pub is_cell : Cell → Bool
is_cell (copy_of nv k) = is_key k
is_cell (copy_of working k) = is_key k && has_working k
is_cell (single x) = true

-- ---- when two names name one cell: each kind of name has its number
abbrev pub setting_number : Setting → ℕ
setting_number line_mask_code = 0
setting_number latch_mask_code = 1
setting_number tx_power_code = 2
setting_number control_source_code = 3
setting_number message_select_code = 4
setting_number interrupt_mask_code = 5

abbrev pub single_number : Single → ℕ
single_number name = 0
single_number firmware = 1
single_number serial = 2
single_number lines = 3
single_number rssi = 4
single_number ladj = 5
single_number events = 6
single_number flags = 7
single_number hardwarePower = 8
single_number hardwareLineMask = 9
single_number hardwareLatchMask = 10

abbrev pub key_kind : Key → ℕ
key_kind (setting s) = 0
key_kind (input n) = 1
key_kind (slot i) = 2
key_kind address = 3

abbrev pub key_number : Key → ℕ
key_number (setting s) = setting_number s
key_number (input n) = n
key_number (slot i) = i
key_number address = 0

abbrev pub same_copy : Copy → Copy → Bool
same_copy nv nv = true
same_copy nv working = false
same_copy working nv = false
same_copy working working = true

abbrev pub same_key : Key → Key → Bool
same_key j k = eqb (key_kind j) (key_kind k) && eqb (key_number j) (key_number k)

abbrev pub same_single : Single → Single → Bool
same_single x y = eqb (single_number x) (single_number y)

abbrev pub same : Cell → Cell → Bool
same (copy_of c j) (copy_of d k) = same_copy c d && same_key j k
same (copy_of c j) (single y) = false
same (single x) (copy_of d k) = false
same (single x) (single y) = same_single x y
