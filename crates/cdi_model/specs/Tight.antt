-- Document 01, "Who reads and stores which cell": what it means that the table is tight, as a test that is computed. The sequence
-- theorem does not ask it: a table that named more cells than a step touches would satisfy the theorem and empty its exchange, since
-- fewer neighbours, or none, would be apart. So each cell that the table names as read has to make a difference, each that it names as
-- stored in has to change, and no other cell may, for every command on every item, at every index, and for a power-up.
use Rattle.std.specs.Prelude.{ℕ, suc, ◌+◌, Bool, true, cond, not, ◌&&◌, ◌||◌, take, replicate}
use mathlib.Core.List.{List, [], ◌∷◌, ◌++◌, map, flat_map}
use Rattle.std.specs.Bool.{beq}
use Rattle.logic.specs.Lists.{all, any, below, same_bytes}
use Rattle.refusal.specs.Refusal.{value_not_accepted}
use Rattle.cdi_item.specs.declared.Item.{Item}
use Rattle.cdi_item.specs.Items.{items, slot_count, permitted}
use Rattle.cdi_item.specs.Bits.{power_from_setting, line_mask_from_setting, latch_mask_from_setting}
use Rattle.cdi_command.specs.Command as code
use Rattle.cdi_command.specs.Command.{mark_of, carries_value, takes_index}
use Rattle.cdi_model.specs.Cells.{Copy, nv, working, Setting, line_mask_code, latch_mask_code, tx_power_code, control_source_code, message_select_code, interrupt_mask_code, Key, setting, input, slot, address, Single, name, firmware, serial, lines, rssi, ladj, events, flags, hardwarePower, hardwareLineMask, hardwareLatchMask, Cell, copy_of, single, same}
use Rattle.cdi_model.specs.Table.{Decision, refuse, execute, execute_power_up, reads, stores}
use Rattle.cdi_model.specs.Model.{Cells, decide_payload, gives, value_read, response_payload}

-- ---- tests over lists
module _ {A : Type 0} where
  abbrev pub those : (A → Bool) → List A → List A
  those ok [] = []
  those ok (x ∷ xs) = cond (ok x) (x ∷ those ok xs) (those ok xs)

-- ---- the cells
-- the keys that have both copies
abbrev pub copied_keys : List Key
copied_keys =
    setting line_mask_code ∷ setting latch_mask_code ∷ setting tx_power_code ∷ setting control_source_code ∷ setting message_select_code ∷ setting interrupt_mask_code ∷
    input 1 ∷ input 2 ∷ []

abbrev pub every_single : List Single
every_single =
    name ∷ firmware ∷ serial ∷ lines ∷ rssi ∷ ladj ∷ events ∷ flags ∷ hardwarePower ∷ hardwareLineMask ∷ hardwareLatchMask ∷ []

unfoldable pub every_cell : List Cell
every_cell = map (copy_of working) copied_keys ++ map (copy_of nv) (copied_keys ++ map slot (below slot_count []) ++ address ∷ []) ++ map single every_single

abbrev pub is_in : Cell → List Cell → Bool
is_in c cs = any (same c) cs

-- no cell of a list stands in it twice
abbrev pub all_apart : List Cell → Bool
all_apart [] = true
all_apart (c ∷ cs) = not (is_in c cs) && all_apart cs

-- ---- sample payloads, from the item list
abbrev pub permitted_codes : Item → List ℕ
permitted_codes x = those (λ c. permitted x (mark_of c)) (code.read ∷ code.read_nv ∷ code.write ∷ code.program ∷ [])

-- of an indexed item every index that it takes
abbrev pub indexes : Item → List (List ℕ)
indexes x = cond x.indexed (map (λ i. i ∷ []) (those (takes_index x) (below 256 []))) ([] ∷ [])

-- every item that can be stored accepts these bytes, as many as it has
abbrev pub sample_bytes : List ℕ
sample_bytes = 0x05 ∷ 0x02 ∷ 0x01 ∷ 0x02 ∷ 0x03 ∷ []

abbrev pub sample_payload : Item → ℕ → List ℕ → List ℕ
sample_payload x c index = c ∷ x.code ∷ index ++ cond (carries_value c) (take x.length sample_bytes) []

abbrev pub item_payloads : Item → List (List ℕ)
item_payloads x = flat_map (λ c. map (sample_payload x c) (indexes x)) (permitted_codes x)

-- each permitted command on each item at each index, and the two commands that are about no item
unfoldable pub sample_payloads : List (List ℕ)
sample_payloads = flat_map item_payloads items ++ (code.set_default ∷ []) ∷ (code.erase_all ∷ []) ∷ []

-- what is decided on them, and on a power-up, and a refusal
unfoldable pub sample_decisions : List Decision
sample_decisions = refuse value_not_accepted ∷ execute_power_up ∷ map decide_payload sample_payloads

-- ---- states
-- A state by a number n and its working control source, by which the status shows working or hardware values. States with other numbers
-- differ in every cell. With 1, no cell holds what a sample, Set Default, Erase or a power-up gives it: a working copy holds another
-- value than the non-volatile one, and what the hardware selects is a third. Events and interrupt mask share a bit, and those of the
-- states 1 and 3 share none.
abbrev pub setting_in : (n control : ℕ) → Copy → Setting → ℕ
setting_in n control nv s = n
setting_in n control working line_mask_code = suc n
setting_in n control working latch_mask_code = suc n
setting_in n control working tx_power_code = suc n
setting_in n control working control_source_code = control
setting_in n control working message_select_code = suc n
setting_in n control working interrupt_mask_code = suc n

abbrev pub channel_in : ℕ → Copy → ℕ
channel_in n nv = 3 + n
channel_in n working = 4 + n

abbrev pub single_in : ℕ → Single → List ℕ
single_in n name = n ∷ replicate 16 0
single_in n firmware = replicate 3 n
single_in n serial = replicate 4 n
single_in n lines = replicate 2 n
single_in n rssi = replicate 2 n
single_in n ladj = n ∷ []
single_in n events = suc n ∷ []
single_in n flags = n ∷ []
single_in n hardwarePower = (0x10 + n) ∷ []
single_in n hardwareLineMask = (0x10 + n) ∷ []
single_in n hardwareLatchMask = (0x10 + n) ∷ []

unfoldable pub state_of : (n control : ℕ) → Cells
state_of n control (copy_of copy (setting s)) = setting_in n control copy s ∷ []
state_of n control (copy_of copy (input i)) = channel_in n copy ∷ n ∷ 0 ∷ 0 ∷ i ∷ []
state_of n control (copy_of copy (slot i)) = n ∷ n ∷ n ∷ n ∷ i ∷ []
state_of n control (copy_of copy address) = replicate 4 n
state_of n control (single x) = single_in n x

abbrev pub base : ℕ → Cells
base control = state_of 1 control

-- the three bits of the control source clear, and set
abbrev pub hardware_shown : ℕ
hardware_shown = 0x00

abbrev pub working_shown : ℕ
working_shown = power_from_setting + line_mask_from_setting + latch_mask_from_setting

abbrev pub other : Cells
other = state_of 3 0x04

-- two states differ in a cell
abbrev pub differ_in : Cells → Cells → Cell → Bool
differ_in s t c = not (same_bytes (s c) (t c))

-- the cell c taken from the other state
abbrev pub changed : Cells → Cell → Cells
changed s c = λ d. cond (same d c) (other d) (s d)

-- ---- the test
-- what a decision shows in a response: its payload
abbrev pub response_of : Cells → Decision → List ℕ
response_of s (refuse n) = []
response_of s (execute payload a) = response_payload payload a (value_read s (execute payload a))
response_of s execute_power_up = []

-- taking c from the other state changes the response, or what is given to one of the cells
abbrev pub differs : Cells → Decision → List Cell → Cell → Bool
differs s d given c =
    not (same_bytes (response_of (changed s c) d) (response_of s d))
    || any (differ_in (gives (changed s c) d) (gives s d)) given

-- the cells that the decision stores in
abbrev pub stored_cells : Decision → List Cell
stored_cells d = those (stores d) every_cell

abbrev pub matters : Decision → List Cell → Cell → Bool
matters d given c = differs (base hardware_shown) d given c || differs (base working_shown) d given c

-- c is stored in, and holds another value afterwards
abbrev pub changes : Decision → Cell → Bool
changes d c = stores d c && differ_in (gives (base hardware_shown) d) (base hardware_shown) c

unfoldable pub is_tight : Decision → Bool
is_tight d = all (λ c. beq (reads d c) (matters d (stored_cells d) c) && beq (stores d c) (changes d c)) every_cell
