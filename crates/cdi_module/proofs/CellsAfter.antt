-- An accepted command stores in the state what its action stores in the cells, and no more; so does a power-up.
-- Assumes nothing.
use Prim.Native.Nat.{ℕ, zero, suc, ◌<◌, ◌≤◌}
use mathlib.Core.Path.{◌≡◌, refl, sym, ap, ◌∙◌, subst}
use mathlib.Core.List.{List, [], ◌∷◌}
use mathlib.Core.Bool.{Bool, true, false, cond, ◌&&◌, ◌||◌, or-false, and-eq-true_iff, true≢false}
use native.Mathlib.Omega.{arith}
use lib.Dec.{eqb}
use lib.ListN.{length, take, get_or-replicate}
use borrow.Author.Tests.{eqb-true, ltb-true}
use Rattle.logic.proofs.Choice.{by_cases}
use Rattle.cdi_item.specs.declared.Item.{Item}
use Rattle.cdi_item.proofs.Numbers.{input-bounds}
use Rattle.cdi_item.specs.declared.Value.{Value}
use Rattle.cdi_item.specs.Values.{value_bytes}
use Rattle.cdi_item.specs.Items as item
use Rattle.cdi_command.specs.declared.Index.{Index}
use Rattle.cdi_command.specs.declared.Index.TheVariants.{Slot as SlotAt, Input as InputAt}
use Rattle.cdi_command.specs.declared.Command.{Command}
use Rattle.cdi_command.specs.declared.Command.TheVariants.{Read, ReadIndexed, ReadNv, ReadNvIndexed, Write, WriteIndexed, Program, ProgramIndexed, SetDefault, EraseAll}
use Rattle.cdi_command.specs.Payload.{value_in}
use Rattle.cdi_state.specs.declared.Slot.{Slot}
use Rattle.cdi_state.specs.declared.Settings.{Settings}
use Rattle.cdi_state.specs.declared.Stored.{Stored}
use Rattle.cdi_state.specs.declared.ModuleState.{ModuleState}
use Rattle.cdi_state.specs.State.{input_bytes, slot_bytes, no_slot, default_settings, empty_slot, ArrayLengths, input_at}
use Rattle.cdi_state.specs.State.{place}
use Rattle.cdi_store.specs.Store.{with_settings, with_address, setting_stored, input_from, input_stored, slot_from, address_from, slot_programmed, state_after, state_at_power_up}
use Rattle.cdi_model.specs.Cells.{nv, working, Setting, line_mask_code, latch_mask_code, tx_power_code, control_source_code, message_select_code, interrupt_mask_code, setting_number, Key, setting, input, slot, address, name, firmware, serial, lines, rssi, ladj, events, flags, hardwarePower, hardwareLineMask, hardwareLatchMask, Cell, copy_of, single, has_working, is_key, is_cell, same_key, same}
use Rattle.cdi_model.specs.Action.{Source, held, one, status, write, program, set_default, erase_all, key_of, row_of, source_of, read_from, read_nv_from, action_of}
use Rattle.cdi_model.specs.Table.{action_stores, power_up_stores}
use Rattle.cdi_model.specs.Values.{default_value}
use Rattle.cdi_model.specs.Model.{action_gives, power_up_gives}
use Rattle.cdi_model.proofs.Keys.{width}
use Rattle.cdi_model.proofs.Checked.{Checked}
use Rattle.cdi_module.specs.Machine.{setting_held, cells}
use Rattle.cdi_module.proofs.Views.{put-at, setting-put, setting-leaves_inputs, input-leaves-settings, input-put, same-singles}

-- ---- a value of the length that it is known to have
take_again : (n : ℕ) (l : List ℕ) → take n l ≡ take (length (take n l)) l
take_again zero l = refl
take_again (suc n) [] = refl
take_again (suc n) (x ∷ l) = ap (λ (t : List ℕ). x ∷ t) (take_again n l)

value_is : (x : Item) (v : Value) (n : ℕ) → length (value_in x v) ≡ n → value_in x v ≡ take n (value_bytes v)
value_is x v n e = take_again x.length (value_bytes v) ∙ ap (λ (k : ℕ). take k (value_bytes v)) e

-- ---- one copy of the settings
-- what a copy holds under a key
abbrev held_under : Settings → Key → List ℕ
held_under t (setting x) = setting_held t x ∷ []
held_under t (input n) = input_bytes (input_at t n)
held_under t (slot i) = []
held_under t address = []

-- the copy u is t with v under the key k
abbrev Updated : Settings → Settings → Key → List ℕ → Type 0
Updated t u k v = (j : Key) → held_under u j ≡ cond (same_key j k) v (held_under t j)

setting-stored : (t : Settings) (code byte : ℕ) (y : Setting) → place code ≡ setting_number y
    → Updated t (setting_stored t code byte) (setting y) (byte ∷ [])
setting-stored t code byte y e (setting x) = setting-put t code byte x y e
setting-stored t code byte y e (input n) = ap input_bytes (setting-leaves_inputs t code byte n)
setting-stored t code byte y e (slot i) = refl
setting-stored t code byte y e address = refl

input-stored : (t : Settings) (n : ℕ) (v : Value) → length t.analog_inputs ≡ 2 → 1 ≤ n → n ≤ 2
    → Updated t (input_stored t n (input_from v)) (input n) (value_bytes v)
input-stored t n v h p q (setting x) = ap (λ (b : ℕ). b ∷ []) (input-leaves-settings t n (input_from v) x)
input-stored t n v h p q (input i) = input-put t i n (input_from v) h p q
input-stored t n v h p q (slot i) = refl
input-stored t n v h p q address = refl

-- ---- the whole state
-- a state with another stored part and other working settings
abbrev parted : ModuleState → Stored → Settings → ModuleState
parted s t w = record { stored = t; working = record { settings = w }; live = s.live }

-- a working copy with a value under a key: Write
written-cells : (s : ModuleState) (w : Settings) (k : Key) (v : List ℕ) → Updated s.working.settings w k v
    → (c : Cell) → cells (parted s s.stored w) c ≡ cond (same c (copy_of working k)) v (cells s c)
unfolding cells
written-cells s w k v h (copy_of nv (setting x)) = refl
written-cells s w k v h (copy_of nv (input n)) = refl
written-cells s w k v h (copy_of nv (slot i)) = refl
written-cells s w k v h (copy_of nv address) = refl
written-cells s w k v h (copy_of working (setting x)) = h (setting x)
written-cells s w k v h (copy_of working (input n)) = h (input n)
written-cells s w k v h (copy_of working (slot i)) = h (slot i)
written-cells s w k v h (copy_of working address) = h address
written-cells s w k v h (single x) = same-singles (parted s s.stored w) s x refl

-- what has a working copy is no slot, and not the address
no_slot_lem : (k : Key) (i : ℕ) → has_working k ≡ true → same_key (slot i) k ≡ false
no_slot_lem (setting x) i e = refl
no_slot_lem (input n) i e = refl
no_slot_lem (slot j) i e = cc
no_slot_lem address i e = cc

no_address : (k : Key) → has_working k ≡ true → same_key address k ≡ false
no_address (setting x) e = refl
no_address (input n) e = refl
no_address (slot j) e = cc
no_address address e = cc

-- both copies with it: Program
abbrev program_stores : Key → Cell → Bool
program_stores k c = (has_working k && same c (copy_of working k)) || same c (copy_of nv k)

programmed_cells : (s : ModuleState) (n w : Settings) (k : Key) (v : List ℕ) → has_working k ≡ true → Updated s.stored.settings n k v → Updated s.working.settings w k v
    → (c : Cell) → cells (parted s (with_settings s.stored n) w) c ≡ cond (program_stores k c) v (cells s c)
unfolding cells
programmed_cells s n w k v e f h (copy_of nv (setting x)) = rw e (f (setting x))
programmed_cells s n w k v e f h (copy_of nv (input i)) = rw e (f (input i))
programmed_cells s n w k v e f h (copy_of nv (slot i)) = rw (e, no_slot_lem k i e)
programmed_cells s n w k v e f h (copy_of nv address) = rw (e, no_address k e)
programmed_cells s n w k v e f h (copy_of working (setting x)) = rw (e, or-false (same_key (setting x) k)) (h (setting x))
programmed_cells s n w k v e f h (copy_of working (input i)) = rw (e, or-false (same_key (input i) k)) (h (input i))
programmed_cells s n w k v e f h (copy_of working (slot i)) = rw (e, or-false (same_key (slot i) k)) (h (slot i))
programmed_cells s n w k v e f h (copy_of working address) = rw (e, or-false (same_key address k)) (h address)
programmed_cells s n w k v e f h (single x) = rw e (same-singles (parted s (with_settings s.stored n) w) s x refl)

-- one slot
slot_cells_lem : (s : ModuleState) (i : ℕ) (x : Slot) → length s.stored.slots ≡ 40 → i < 40
    → (c : Cell) → cells (parted s (slot_programmed s.stored i x) s.working.settings) c ≡ cond (program_stores (slot i) c) (slot_bytes x) (cells s c)
unfolding cells
slot_cells_lem s i x h p (copy_of nv (setting y)) = refl
slot_cells_lem s i x h p (copy_of nv (input n)) = refl
slot_cells_lem s i x h p (copy_of nv (slot j)) = put-at slot_bytes s.stored.slots j i x no_slot (omega arith)
slot_cells_lem s i x h p (copy_of nv address) = refl
slot_cells_lem s i x h p (copy_of working (setting y)) = refl
slot_cells_lem s i x h p (copy_of working (input n)) = refl
slot_cells_lem s i x h p (copy_of working (slot j)) = refl
slot_cells_lem s i x h p (copy_of working address) = refl
slot_cells_lem s i x h p (single y) = same-singles (parted s (slot_programmed s.stored i x) s.working.settings) s y refl

address-cells : (s : ModuleState) (a : List ℕ) (c : Cell) → cells (parted s (with_address s.stored a) s.working.settings) c ≡ cond (program_stores address c) a (cells s c)
unfolding cells
address-cells s a (copy_of nv (setting y)) = refl
address-cells s a (copy_of nv (input n)) = refl
address-cells s a (copy_of nv (slot j)) = refl
address-cells s a (copy_of nv address) = refl
address-cells s a (copy_of working (setting y)) = refl
address-cells s a (copy_of working (input n)) = refl
address-cells s a (copy_of working (slot j)) = refl
address-cells s a (copy_of working address) = refl
address-cells s a (single y) = same-singles (parted s (with_address s.stored a) s.working.settings) s y refl

-- both copies of all settings: Set Default
default_held : (k : Key) → is_key k ≡ true → has_working k ≡ true → held_under default_settings k ≡ default_value k
default_held (setting line_mask_code) e w = refl
default_held (setting latch_mask_code) e w = refl
default_held (setting tx_power_code) e w = refl
default_held (setting control_source_code) e w = refl
default_held (setting message_select_code) e w = refl
default_held (setting interrupt_mask_code) e w = refl
default_held (input zero) e w = cc
default_held (input (suc zero)) e w = refl
default_held (input (suc (suc zero))) e w = refl
default_held (input (suc (suc (suc n)))) e w = absurd (omega (arith, (input-bounds (suc (suc (suc n))) e).1))
default_held (slot i) e w = cc
default_held address e w = cc

default_cells : (s : ModuleState) (c : Cell) → is_cell c ≡ true → cells (state_after s SetDefault) c ≡ cond (action_stores set_default c) (action_gives set_default c) (cells s c)
unfolding cells
default_cells s (copy_of nv (setting x)) e = default_held (setting x) e refl
default_cells s (copy_of nv (input n)) e = default_held (input n) e refl
default_cells s (copy_of nv (slot i)) e = refl
default_cells s (copy_of nv address) e = refl
default_cells s (copy_of working (setting x)) e = default_held (setting x) refl refl
default_cells s (copy_of working (input n)) e = default_held (input n) ((and-eq-true_iff _ _).0 e).0 refl
default_cells s (copy_of working (slot i)) e = refl
default_cells s (copy_of working address) e = refl
default_cells s (single x) e = same-singles (state_after s SetDefault) s x refl

-- all slots: Erase All Addresses
erased_cells : (s : ModuleState) (c : Cell) → is_cell c ≡ true → cells (state_after s EraseAll) c ≡ cond (action_stores erase_all c) (action_gives erase_all c) (cells s c)
unfolding cells
erased_cells s (copy_of nv (setting x)) e = refl
erased_cells s (copy_of nv (input n)) e = refl
erased_cells s (copy_of nv (slot i)) e = ap slot_bytes (get_or-replicate 40 i empty_slot no_slot (ltb-true i 40 e))
erased_cells s (copy_of nv address) e = refl
erased_cells s (copy_of working (setting x)) e = refl
erased_cells s (copy_of working (input n)) e = refl
erased_cells s (copy_of working (slot i)) e = refl
erased_cells s (copy_of working address) e = refl
erased_cells s (single x) e = same-singles (state_after s EraseAll) s x refl

-- a power-up
pub power_up-cells : (s : ModuleState) (c : Cell) → cells (state_at_power_up s) c ≡ cond (power_up_stores c) (power_up_gives (cells s) c) (cells s c)
unfolding cells
power_up-cells s (copy_of nv (setting x)) = refl
power_up-cells s (copy_of nv (input n)) = refl
power_up-cells s (copy_of nv (slot i)) = refl
power_up-cells s (copy_of nv address) = refl
power_up-cells s (copy_of working (setting x)) = refl
power_up-cells s (copy_of working (input n)) = refl
power_up-cells s (copy_of working (slot i)) = refl
power_up-cells s (copy_of working address) = refl
power_up-cells s (single name) = refl
power_up-cells s (single firmware) = refl
power_up-cells s (single serial) = refl
power_up-cells s (single lines) = refl
power_up-cells s (single rssi) = refl
power_up-cells s (single ladj) = refl
power_up-cells s (single events) = refl
power_up-cells s (single flags) = refl
power_up-cells s (single hardwarePower) = refl
power_up-cells s (single hardwareLineMask) = refl
power_up-cells s (single hardwareLatchMask) = refl

-- ---- each accepted command
-- an item that can be stored and is not the address names a setting, by its place
record Placed (code : ℕ) : Type 0 where
  names : Setting
  key_is : key_of code ≡ setting names
  place_is : place code ≡ setting_number names

placed : (code : ℕ) → is_key (key_of code) ≡ true → eqb code item.address ≡ false → Placed code
placed code there f =
    by_cases (eqb code item.line_mask_code) (λ e. at item.line_mask_code e (record { names = line_mask_code; key_is = refl; place_is = refl }))
    (λ g1. by_cases (eqb code item.latch_mask_code) (λ e. at item.latch_mask_code e (record { names = latch_mask_code; key_is = refl; place_is = refl }))
    (λ g2. by_cases (eqb code item.tx_power_code) (λ e. at item.tx_power_code e (record { names = tx_power_code; key_is = refl; place_is = refl }))
    (λ g3. by_cases (eqb code item.control_source_code) (λ e. at item.control_source_code e (record { names = control_source_code; key_is = refl; place_is = refl }))
    (λ g4. by_cases (eqb code item.message_select_code) (λ e. at item.message_select_code e (record { names = message_select_code; key_is = refl; place_is = refl }))
    (λ g5. by_cases (eqb code item.interrupt_mask_code) (λ e. at item.interrupt_mask_code e (record { names = interrupt_mask_code; key_is = refl; place_is = refl }))
    (λ g6. absurd (true≢false (sym (rw (f, g1, g2, g3, g4, g5, g6) at there)))))))))
  where
    at : (k : ℕ) → eqb code k ≡ true → Placed k → Placed code
    at k e p = subst Placed (sym (eqb-true code k e)) p

-- the address is no setting
address_no_setting : (t : Settings) (code byte : ℕ) → eqb code item.address ≡ true → setting_stored t code byte ≡ t
unfolding setting_stored
address_no_setting t code byte e = rw (eqb-true code item.address e)

-- what has a working copy is not the address' item
not_address : (code : ℕ) → has_working (key_of code) ≡ true → eqb code item.address ≡ false
not_address code w = by_cases (eqb code item.address) (λ e. cc) (λ e. e)

module _ (s : ModuleState) (h : ArrayLengths s) where
  plain-written : (x : Item) (v : Value) → Checked (write (key_of x.code) (value_in x v))
      → (c : Cell) → cells (state_after s (Write x v)) c ≡ cond (same c (copy_of working (key_of x.code))) (value_in x v) (cells s c)
  plain-written x v (k, w) c =
      let p = placed x.code k.named (not_address x.code w) in
      rw (value_is x v 1 (k.sized ∙ ap width p.key_is), p.key_is)
      (written-cells s (setting_stored s.working.settings x.code v.byte0) (setting p.names) (v.byte0 ∷ [])
      (setting-stored s.working.settings x.code v.byte0 p.names p.place_is) c)

  row_written : (x : Item) (i : Index) (v : Value) → Checked (write (row_of i) (value_in x v))
      → (c : Cell) → cells (state_after s (WriteIndexed x i v)) c ≡ cond (same c (copy_of working (row_of i))) (value_in x v) (cells s c)
  row_written x (SlotAt i) v (k, w) c = absurd (true≢false (sym w))
  row_written x (InputAt n) v (k, w) c =
      let b = input-bounds n.0 k.named in
      rw (value_is x v 5 k.sized)
      (written-cells s (input_stored s.working.settings n.0 (input_from v)) (input n.0) (value_bytes v)
      (input-stored s.working.settings n.0 v h.working_inputs b.0 b.1) c)

  plain_programmed_lem : (x : Item) (v : Value) → Checked (program (key_of x.code) (value_in x v))
      → (c : Cell) → cells (state_after s (Program x v)) c ≡ cond (program_stores (key_of x.code) c) (value_in x v) (cells s c)
  plain_programmed_lem x v k c =
      by_cases (eqb x.code item.address)
      (λ e.
      let a : key_of x.code ≡ address = rw (eqb-true x.code item.address e) in
      rw (value_is x v 4 (k.sized ∙ ap width a), a, e, address_no_setting s.working.settings x.code v.byte0 e) (address-cells s (address_from v) c))
      (λ e.
      let p = placed x.code k.named e in
      rw (value_is x v 1 (k.sized ∙ ap width p.key_is), p.key_is, e)
      (programmed_cells s (setting_stored s.stored.settings x.code v.byte0) (setting_stored s.working.settings x.code v.byte0)
      (setting p.names) (v.byte0 ∷ []) refl
      (setting-stored s.stored.settings x.code v.byte0 p.names p.place_is)
      (setting-stored s.working.settings x.code v.byte0 p.names p.place_is) c))

  row_programmed_lem : (x : Item) (i : Index) (v : Value) → Checked (program (row_of i) (value_in x v))
      → (c : Cell) → cells (state_after s (ProgramIndexed x i v)) c ≡ cond (program_stores (row_of i) c) (value_in x v) (cells s c)
  row_programmed_lem x (SlotAt i) v k c =
      rw (value_is x v 5 k.sized) (slot_cells_lem s i.0 (slot_from v) h.slot_count_lem (ltb-true i.0 40 k.named) c)
  row_programmed_lem x (InputAt n) v k c =
      let b = input-bounds n.0 k.named in
      rw (value_is x v 5 k.sized)
      (programmed_cells s (input_stored s.stored.settings n.0 (input_from v)) (input_stored s.working.settings n.0 (input_from v))
      (input n.0) (value_bytes v) refl
      (input-stored s.stored.settings n.0 v h.stored_inputs b.0 b.1)
      (input-stored s.working.settings n.0 v h.working_inputs b.0 b.1) c)

  -- a source is only read from
  read-stores : (x : Source) (c : Cell) → action_stores (read_from x) c ≡ false
  read-stores (held k) c = refl
  read-stores (one x) c = refl
  read-stores status c = refl

  read_nv-stores : (x : Source) (c : Cell) → action_stores (read_nv_from x) c ≡ false
  read_nv-stores (held k) c = refl
  read_nv-stores (one x) c = refl
  read_nv-stores status c = refl

  pub command-cells : (d : Command) → Checked (action_of d) → (c : Cell) → is_cell c ≡ true
      → cells (state_after s d) c ≡ cond (action_stores (action_of d) c) (action_gives (action_of d) c) (cells s c)
  unfolding action_of
  command-cells (Read x) k c e = rw (read-stores (source_of x.code) c)
  command-cells (ReadIndexed x i) k c e = refl
  command-cells (ReadNv x) k c e = rw (read_nv-stores (source_of x.code) c)
  command-cells (ReadNvIndexed x i) k c e = refl
  command-cells (Write x v) k c e = plain-written x v k c
  command-cells (WriteIndexed x i v) k c e = row_written x i v k c
  command-cells (Program x v) k c e = plain_programmed_lem x v k c
  command-cells (ProgramIndexed x i v) k c e = row_programmed_lem x i v k c
  command-cells SetDefault k c e = default_cells s c e
  command-cells EraseAll k c e = erased_cells s c e
