-- The value that a command reads from a state is the one that its action reads from the state's cells.
-- Assumes nothing.
use Prim.Native.Nat.{ℕ}
use mathlib.Core.Path.{◌≡◌, refl, sym, ap, ◌∙◌}
use mathlib.Core.List.{List, [], ◌∷◌}
use mathlib.Core.Bool.{Bool, true, false, cond, not, true≢false}
use lib.Bits.{bit_and, bit_or}
use lib.Dec.{eqb}
use borrow.Author.Tests.{eqb-true}
use Rattle.logic.proofs.Choice.{choice}
use Rattle.cdi_item.specs.Items as item
use Rattle.cdi_command.specs.declared.Index.TheVariants.{Slot, Input}
use Rattle.cdi_command.specs.declared.Command.{Command}
use Rattle.cdi_command.specs.declared.Command.TheVariants.{Read, ReadIndexed, ReadNv, ReadNvIndexed, Write, WriteIndexed, Program, ProgramIndexed, SetDefault, EraseAll}
use Rattle.cdi_command.specs.Payload.{WellFormed}
use Rattle.cdi_state.specs.declared.Settings.{Settings}
use Rattle.cdi_state.specs.declared.ModuleState.{ModuleState}
use Rattle.cdi_value.specs.Value.{setting_value, name_shown, status_shown, plain_value, value_read}
use Rattle.cdi_model.specs.Cells.{Setting, line_mask_code, latch_mask_code, tx_power_code, control_source_code, message_select_code, interrupt_mask_code, Key, setting, address, Single, name, firmware, serial, lines, rssi, ladj, events}
use Rattle.cdi_model.specs.Action.{Source, held, one, status, read_from, read_nv_from, source_of, action_of}
use Rattle.cdi_model.specs.Values.{up_to_zero}
use Rattle.cdi_model.specs.Model.{shown_single, status_of, action_value}
use Rattle.cdi_model.proofs.Keys.{is_source, source_there, row_named}
use Rattle.cdi_module.specs.Machine.{setting_held, single_held, cells}

-- the two texts of what is shown of a name
pub name-agrees : (l : List ℕ) → name_shown l ≡ up_to_zero l
unfolding name_shown up_to_zero
name-agrees [] = refl
name-agrees (b ∷ bs) = ap (λ (l : List ℕ). cond (eqb b 0) (b ∷ []) (b ∷ l)) (name-agrees bs)

-- the module asks whether a bit is 0, the model whether it is set
flipped : (t : Bool) (a b : ℕ) → cond t a b ≡ cond (not t) b a
flipped true a b = refl
flipped false a b = refl

status-agrees : (s : ModuleState) → status_shown s.working.settings s.live.hardware s.live.flags s.live.events ≡ status_of (cells s)
unfolding status_shown cells
status-agrees s =
    let t = s.working.settings in
    let l = s.live in
    let h = l.hardware in
    let first = flipped (eqb (bit_and l.events t.interrupt_mask) 0) l.flags (bit_or l.flags 0x80) in
    let power = flipped (eqb (bit_and t.control_source 0x01) 0) h.power t.tx_power in
    let line = flipped (eqb (bit_and t.control_source 0x08) 0) h.line_mask t.line_mask in
    let latch = flipped (eqb (bit_and t.control_source 0x10) 0) h.latch_mask t.latch_mask in
    λ i. first i ∷ power i ∷ line i ∷ latch i ∷ []

-- an item without an index, whichever copy of the settings is read
module _ (s : ModuleState) (t : Settings) (value : Source → List ℕ)
    (on_one : (x : Single) → shown_single x (single_held s x) ≡ value (one x))
    (on-status : status_of (cells s) ≡ value status)
    (on-setting : (x : Setting) → (setting_held t x ∷ []) ≡ value (held (setting x)))
    (on-address : s.stored.address ≡ value (held address))
    (code : ℕ) (there : is_source (source_of code) ≡ true)
  where
    plain-agrees : plain_value s t code ≡ value (source_of code)
    unfolding plain_value setting_value
    plain-agrees =
        let P : Source → Type 0 = λ x. plain_value s t code ≡ value x in
        let Q : Key → Type 0 = λ k. plain_value s t code ≡ value (held k) in
        choice P (eqb code item.name) (λ e. rw (eqb-true code item.name e) (name-agrees s.stored.name ∙ on_one name))
        (λ f1. choice P (eqb code item.firmware) (λ e. rw (eqb-true code item.firmware e) (on_one firmware))
        (λ f2. choice P (eqb code item.serial) (λ e. rw (eqb-true code item.serial e) (on_one serial))
        (λ f3. choice P (eqb code item.lines) (λ e. rw (eqb-true code item.lines e) (on_one lines))
        (λ f4. choice P (eqb code item.rssi) (λ e. rw (eqb-true code item.rssi e) (on_one rssi))
        (λ f5. choice P (eqb code item.ladj) (λ e. rw (eqb-true code item.ladj e) (on_one ladj))
        (λ f6. choice P (eqb code item.status) (λ e. rw (eqb-true code item.status e) (status-agrees s ∙ on-status))
        (λ f7. choice P (eqb code item.events) (λ e. rw (eqb-true code item.events e) (on_one events))
        (λ f8. choice Q (eqb code item.address) (λ e. rw (eqb-true code item.address e) on-address)
        (λ f9. choice Q (eqb code item.line_mask_code) (λ e. rw (eqb-true code item.line_mask_code e) (on-setting line_mask_code))
        (λ g1. choice Q (eqb code item.latch_mask_code) (λ e. rw (eqb-true code item.latch_mask_code e) (on-setting latch_mask_code))
        (λ g2. choice Q (eqb code item.tx_power_code) (λ e. rw (eqb-true code item.tx_power_code e) (on-setting tx_power_code))
        (λ g3. choice Q (eqb code item.control_source_code) (λ e. rw (eqb-true code item.control_source_code e) (on-setting control_source_code))
        (λ g4. choice Q (eqb code item.message_select_code) (λ e. rw (eqb-true code item.message_select_code e) (on-setting message_select_code))
        (λ g5. choice Q (eqb code item.interrupt_mask_code) (λ e. rw (eqb-true code item.interrupt_mask_code e) (on-setting interrupt_mask_code))
        (λ g6. absurd (true≢false (sym (rw (f1, f2, f3, f4, f5, f6, f7, f8, f9, g1, g2, g3, g4, g5, g6) at there))))))))))))))))))

-- what a command that the item list has reads is what its action reads
pub value-agrees : (s : ModuleState) (c : Command) → WellFormed c → value_read s c ≡ action_value (cells s) (action_of c)
unfolding action_of cells
value-agrees s (Read x) p =
    plain-agrees s s.working.settings (λ y. action_value (cells s) (read_from y)) (λ y. refl) refl (λ y. refl) refl x.code
    (source_there x p.listed p.form)
value-agrees s (ReadIndexed x (Slot i)) (p, e) = rw (row_named x (Slot i) e)
value-agrees s (ReadIndexed x (Input n)) (p, e) = rw (row_named x (Input n) e)
value-agrees s (ReadNv x) p =
    plain-agrees s s.stored.settings (λ y. action_value (cells s) (read_nv_from y)) (λ y. refl) refl (λ y. refl) refl x.code
    (source_there x p.listed p.form)
value-agrees s (ReadNvIndexed x (Slot i)) (p, e) = rw (row_named x (Slot i) e)
value-agrees s (ReadNvIndexed x (Input n)) (p, e) = rw (row_named x (Input n) e)
value-agrees s (Write x v) p = refl
value-agrees s (WriteIndexed x i v) p = refl
value-agrees s (Program x v) p = refl
value-agrees s (ProgramIndexed x i v) p = refl
value-agrees s SetDefault p = refl
value-agrees s EraseAll p = refl
