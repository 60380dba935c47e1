-- The module follows the reference model: it decides alike on every step, and the cells, the result and the array lengths after a step
-- are the model's; and a state is no more than its cells.
-- Assumes nothing.
use Prim.Native.Nat.{ℕ, zero, suc}
use mathlib.Core.Path.{◌≡◌, refl, sym, ap, ap₂, ◌∙◌}
use mathlib.Core.List.{List, [], ◌∷◌, ◌++◌}
use mathlib.Core.Bool.{Bool, true, false, cond, not, ◌&&◌, ◌||◌, true≢false}
use native.Mathlib.Omega.{arith}
use lib.Dec.{eqb, ltb}
use lib.ListN.{length, get_or, drop, length-set, get_or-eq_default}
use lib.Seq.{ext_get_or}
use borrow.Author.Tests.{ltb-false}
use Rattle.logic.specs.Lists.{all}
use Rattle.logic.proofs.Choice.{choice, by_cases, implied}
use Rattle.sequence.specs.Model.{next}
use Rattle.sequence.specs.Machine.{Follows}
use Rattle.refusal.specs.Refusal.{Result, accepted, refused, and_then}
use Rattle.cdi_frame.specs.declared.Span.{Span}
use Rattle.cdi_frame.specs.Frame.{command_wake_limit, read_frame, payload_in}
use Rattle.cdi_frame.specs.Layout.{response_frame}
use Rattle.cdi_item.specs.declared.Item.{Item}
use Rattle.cdi_item.specs.declared.Value.{Value}
use Rattle.cdi_item.specs.Items as item
use Rattle.cdi_item.proofs.Consistent.{found}
use Rattle.cdi_item.proofs.Numbers.{no_input_lem}
use Rattle.cdi_command.specs.declared.Index.TheVariants.{Slot as SlotAt, Input as InputAt}
use Rattle.cdi_command.specs.declared.Command.{Command}
use Rattle.cdi_command.specs.declared.Command.TheVariants.{Read, ReadIndexed, ReadNv, ReadNvIndexed, Write, WriteIndexed, Program, ProgramIndexed, SetDefault, EraseAll}
use Rattle.cdi_command.specs.Command.{validate_payload}
use Rattle.cdi_command.specs.Payload.{command_payload, response_payload, WellFormed, Permitted}
use Rattle.cdi_command.proofs.Accepted.{accepted_well_formed, accepted-payload}
use Rattle.cdi_state.specs.declared.Slot.{Slot}
use Rattle.cdi_state.specs.declared.AnalogInput.{AnalogInput}
use Rattle.cdi_state.specs.declared.Settings.{Settings}
use Rattle.cdi_state.specs.declared.Stored.{Stored}
use Rattle.cdi_state.specs.declared.ModuleState.{ModuleState}
use Rattle.cdi_state.specs.State.{input_bytes, slot_bytes, no_slot, no_input, ArrayLengths, input_at}
use Rattle.cdi_store.specs.Store.{setting_stored, input_from, slot_from, plain_programmed, state_after, state_at_power_up}
use Rattle.cdi_value.specs.Value.{value_read}
use Rattle.cdi_model.specs.Cells.{nv, working, Setting, line_mask_code, latch_mask_code, tx_power_code, control_source_code, message_select_code, interrupt_mask_code, setting, input, slot, address, Single, name, firmware, serial, lines, rssi, ladj, events, flags, hardwarePower, hardwareLineMask, hardwareLatchMask, Cell, copy_of, single, is_key, is_cell}
use Rattle.cdi_model.specs.Step.{Step, power_up, command}
use Rattle.cdi_model.specs.Action.{Source, held, one, status, read_from, read_nv_from, source_of, action_of}
use Rattle.cdi_model.specs.Table.{Decision, refuse, execute, execute_power_up, stores}
use Rattle.cdi_model.specs.Model as Model
use Rattle.cdi_model.specs.Model.{gives, model}
use Rattle.cdi_model.proofs.Checked.{accepted-checked}
use Rattle.cdi_module.specs.Module as Module
use Rattle.cdi_module.specs.Machine.{setting_held, single_held, cells, machine}
use Rattle.cdi_module.proofs.Views.{inputs_length}
use Rattle.cdi_module.proofs.Shown.{value-agrees}
use Rattle.cdi_module.proofs.Validity.{validity_agrees}
use Rattle.cdi_module.proofs.CellsAfter.{command-cells, power_up-cells}

-- ---- decisions
-- what holds of both sides of two choices by one test
both : {A B : Type 0} (P : A → B → Type 0) (t : Bool) {a b : A} {c d : B} → P a c → P b d → P (cond t a b) (cond t c d)
both P true p q = p
both P false p q = q

-- what holds of equal refusals, of a command and its action, and of power-ups, holds of the two decisions on any step
module _ (P : Module.Decision → Decision → Type 0)
    (on-refuse : (n : ℕ) → P (Module.refuse n) (refuse n))
    (on-execute : (payload : List ℕ) (c : Command) → validate_payload payload ≡ accepted c → P (Module.execute c) (execute payload (action_of c)))
    (on-power-up : P Module.execute_power_up execute_power_up)
  where
    by_payload : (payload : List ℕ) (r : Result Command) → validate_payload payload ≡ r → P (Module.decided r) (Model.decide_command payload r)
    by_payload payload (accepted c) e = on-execute payload c e
    by_payload payload (refused n) e = on-refuse n

    by_frame : (block : List ℕ) (f : Result Span)
        → P (Module.decided (and_then f (λ span. validate_payload (payload_in block span)))) (Model.decide_frame block f)
    unfolding Model.decide_payload
    by_frame block (accepted span) = by_payload (payload_in block span) (validate_payload (payload_in block span)) refl
    by_frame block (refused n) = on-refuse n

    decisions : (s : ModuleState) → ArrayLengths s → (x : Step) → P (Module.decide s x) (Model.decide (cells s) x)
    unfolding Module.decide Module.command_in Model.decide Model.decide_block
    decisions s h power_up = rw (validity_agrees s h) (both P (Model.is_valid (cells s)) on-power-up (on-refuse _))
    decisions s h (command r) =
        rw (validity_agrees s h)
        (both P (ltb (length r.response) 22) (on-refuse _)
        (both P (Model.is_valid (cells s)) (by_frame r.block (read_frame command_wake_limit r.block)) (on-refuse _)))

-- ---- results
read-response : (x : Source) (payload v : List ℕ) → Model.response_payload payload (read_from x) v ≡ (0xC1 ∷ drop 1 payload ++ v)
unfolding Model.response_payload
read-response (held k) payload v = refl
read-response (one x) payload v = refl
read-response status payload v = refl

-- the status has no Read NV
no_read_nv : Item → Bool
no_read_nv x = not (item.permitted x item.N) || not (eqb x.code item.status)

every_no_read_nv : all no_read_nv item.items ≡ true
unfolding item.items no_read_nv
every_no_read_nv = refl

status_nv : (x : Item) → Permitted x item.N false → not (eqb x.code item.status) ≡ true
unfolding no_read_nv
status_nv x p = implied (item.permitted x item.N) _ (found no_read_nv every_no_read_nv x.code x p.listed).0 p.permits

read_nv-response : (code : ℕ) → not (eqb code item.status) ≡ true → (payload v : List ℕ)
    → Model.response_payload payload (read_nv_from (source_of code)) v ≡ (0xC2 ∷ drop 1 payload ++ v)
unfolding Model.response_payload
read_nv-response code e payload v =
    let P : Source → Type 0 = λ x. Model.response_payload payload (read_nv_from x) v ≡ (0xC2 ∷ drop 1 payload ++ v) in
    choice P (eqb code item.name) (λ _. refl)
    (λ _. choice P (eqb code item.firmware) (λ _. refl)
    (λ _. choice P (eqb code item.serial) (λ _. refl)
    (λ _. choice P (eqb code item.lines) (λ _. refl)
    (λ _. choice P (eqb code item.rssi) (λ _. refl)
    (λ _. choice P (eqb code item.ladj) (λ _. refl)
    (λ _. choice P (eqb code item.status) (λ f. cc)
    (λ _. choice P (eqb code item.events) (λ _. refl) (λ _. refl))))))))

-- the payload of the response to a command's payload is that of its action
payload-agrees : (c : Command) → WellFormed c → (v : List ℕ) → response_payload (command_payload c) v ≡ Model.response_payload (command_payload c) (action_of c) v
unfolding action_of Model.response_payload
payload-agrees (Read x) p v = sym (read-response (source_of x.code) (command_payload (Read x)) v)
payload-agrees (ReadIndexed x i) p v = refl
payload-agrees (ReadNv x) p v = sym (read_nv-response x.code (status_nv x p) (command_payload (ReadNv x)) v)
payload-agrees (ReadNvIndexed x i) p v = refl
payload-agrees (Write x w) p v = refl
payload-agrees (WriteIndexed x i w) p v = refl
payload-agrees (Program x w) p v = refl
payload-agrees (ProgramIndexed x i w) p v = refl
payload-agrees SetDefault p v = refl
payload-agrees EraseAll p v = refl

response-agrees : (s : ModuleState) (payload : List ℕ) (c : Command) → validate_payload payload ≡ accepted c
    → Module.response_to s c ≡ response_frame (Model.response_payload payload (action_of c) (Model.action_value (cells s) (action_of c)))
response-agrees s payload c e =
    ap response_frame
    (payload-agrees c (accepted_well_formed payload c e) (value_read s c)
    ∙ ap₂ (λ (p v : List ℕ). Model.response_payload p (action_of c) v) (accepted-payload payload c e) (value-agrees s c (accepted_well_formed payload c e)))

result-agrees : (s : ModuleState) (x : Step) → ArrayLengths s → Module.result_of s x ≡ model.result (cells s) x
unfolding Module.result_of Model.result_of Model.value_read
result-agrees s power_up h =
    decisions (λ d e. Module.result_by s power_up d ≡ Model.result_of power_up e (Model.value_read (cells s) e)) (λ n. refl) (λ p c e. refl) refl s h power_up
result-agrees s (command r) h =
    decisions (λ d e. Module.block_result s r.response d ≡ Model.result_of (command r) e (Model.value_read (cells s) e))
    (λ n. refl) (λ p c e. ap (Model.respond r.response) (response-agrees s p c e)) refl s h (command r)

-- ---- array lengths
same-lengths : (s t : ModuleState) → length t.stored.settings.analog_inputs ≡ length s.stored.settings.analog_inputs
    → length t.working.settings.analog_inputs ≡ length s.working.settings.analog_inputs → length t.stored.slots ≡ length s.stored.slots
    → ArrayLengths s → ArrayLengths t
same-lengths s t n w l h = record { stored_inputs = n ∙ h.stored_inputs; working_inputs = w ∙ h.working_inputs; slot_count_lem = l ∙ h.slot_count_lem }

setting_inputs : (t : Settings) (code byte : ℕ) → length (setting_stored t code byte).analog_inputs ≡ length t.analog_inputs
unfolding setting_stored
setting_inputs t code byte = refl

-- a Program of an item without an index leaves the arrays' lengths in the stored part
plain-lengths : (t : Stored) (code : ℕ) (v : Value) →
    let u = plain_programmed t code v in
    (length u.settings.analog_inputs ≡ length t.settings.analog_inputs) × (length u.slots ≡ length t.slots)
plain-lengths t code v =
    choice (λ (u : Stored). (length u.settings.analog_inputs ≡ length t.settings.analog_inputs) × (length u.slots ≡ length t.slots))
    (eqb code item.address) (λ _. (refl, refl)) (λ _. (setting_inputs t.settings code v.byte0, refl))

command-lengths : (s : ModuleState) (c : Command) → ArrayLengths s → ArrayLengths (state_after s c)
command-lengths s (Read x) h = same-lengths s (state_after s (Read x)) refl refl refl h
command-lengths s (ReadIndexed x i) h = same-lengths s (state_after s (ReadIndexed x i)) refl refl refl h
command-lengths s (ReadNv x) h = same-lengths s (state_after s (ReadNv x)) refl refl refl h
command-lengths s (ReadNvIndexed x i) h = same-lengths s (state_after s (ReadNvIndexed x i)) refl refl refl h
command-lengths s (Write x v) h = same-lengths s (state_after s (Write x v)) refl (setting_inputs s.working.settings x.code v.byte0) refl h
command-lengths s (WriteIndexed x (SlotAt i) v) h = same-lengths s (state_after s (WriteIndexed x (SlotAt i) v)) refl refl refl h
command-lengths s (WriteIndexed x (InputAt n) v) h =
    same-lengths s (state_after s (WriteIndexed x (InputAt n) v)) refl (inputs_length s.working.settings n.0 (input_from v)) refl h
command-lengths s (Program x v) h =
    let p = plain-lengths s.stored x.code v in
    same-lengths s (state_after s (Program x v)) p.0 (setting_inputs s.working.settings x.code v.byte0) p.1 h
command-lengths s (ProgramIndexed x (SlotAt i) v) h =
    same-lengths s (state_after s (ProgramIndexed x (SlotAt i) v)) refl refl (length-set s.stored.slots i.0 (slot_from v)) h
command-lengths s (ProgramIndexed x (InputAt n) v) h =
    same-lengths s (state_after s (ProgramIndexed x (InputAt n) v)) (inputs_length s.stored.settings n.0 (input_from v))
    (inputs_length s.working.settings n.0 (input_from v)) refl h
command-lengths s SetDefault h = record { stored_inputs = refl; working_inputs = refl; slot_count_lem = h.slot_count_lem }
command-lengths s EraseAll h = record { stored_inputs = h.stored_inputs; working_inputs = h.working_inputs; slot_count_lem = refl }

power_up-lengths : (s : ModuleState) → ArrayLengths s → ArrayLengths (state_at_power_up s)
power_up-lengths s h = record { stored_inputs = h.stored_inputs; working_inputs = h.stored_inputs; slot_count_lem = h.slot_count_lem }

lengths-kept : (s : ModuleState) (x : Step) → ArrayLengths s → ArrayLengths (Module.step s x)
unfolding Module.step
lengths-kept s x h =
    decisions (λ d e. ArrayLengths (Module.state_by s d)) (λ n. h) (λ p c e. command-lengths s c h) (power_up-lengths s h) s h x

-- ---- cells
-- a name past the end of an array names no cell, and holds the same in every state
outside : Cell → List ℕ
outside (copy_of nv (setting x)) = []
outside (copy_of nv (input n)) = input_bytes no_input
outside (copy_of nv (slot i)) = slot_bytes no_slot
outside (copy_of nv address) = []
outside (copy_of working (setting x)) = []
outside (copy_of working (input n)) = input_bytes no_input
outside (copy_of working (slot i)) = []
outside (copy_of working address) = []
outside (single x) = []

input-outside : (t : Settings) (n : ℕ) → length t.analog_inputs ≡ 2 → is_key (input n) ≡ false → input_at t n ≡ no_input
input-outside t zero h e = refl
input-outside t (suc i) h e = get_or-eq_default t.analog_inputs no_input {n = i} (omega (arith, no_input_lem i e))

not_both : (a : Bool) → (a && true) ≡ false → a ≡ false
not_both true e = e
not_both false e = refl

held-outside : (s : ModuleState) → ArrayLengths s → (c : Cell) → is_cell c ≡ false → cells s c ≡ outside c
unfolding cells outside
held-outside s h (copy_of nv (setting x)) e = absurd (true≢false e)
held-outside s h (copy_of nv (input n)) e = ap input_bytes (input-outside s.stored.settings n h.stored_inputs e)
held-outside s h (copy_of nv (slot i)) e =
    ap slot_bytes (get_or-eq_default s.stored.slots no_slot {n = i} (omega (arith, ltb-false i 40 e, h.slot_count_lem)))
held-outside s h (copy_of nv address) e = absurd (true≢false e)
held-outside s h (copy_of working (setting x)) e = absurd (true≢false e)
held-outside s h (copy_of working (input n)) e = ap input_bytes (input-outside s.working.settings n h.working_inputs (not_both (is_key (input n)) e))
held-outside s h (copy_of working (slot i)) e = refl
held-outside s h (copy_of working address) e = refl
held-outside s h (single x) e = absurd (true≢false e)

-- what holds of the cells that there are holds of every name
everywhere : (s t : ModuleState) → ArrayLengths s → ArrayLengths t → (c : Cell) (stored_there : Bool) (v : List ℕ)
    → (is_cell c ≡ true → cells t c ≡ cond stored_there v (cells s c)) → cells t c ≡ cond (is_cell c && stored_there) v (cells s c)
everywhere s t h g c b v there =
    by_cases (is_cell c) (λ e. rw e (there e)) (λ e. rw e (held-outside t g c e ∙ sym (held-outside s h c e)))

cells_agree : (s : ModuleState) (x : Step) → ArrayLengths s → (c : Cell) → cells (Module.step s x) c ≡ next model (cells s) x c
unfolding Module.step stores gives
cells_agree s x h c =
    decisions (λ d e. cells (Module.state_by s d) c ≡ cond (stores e c) (gives (cells s) e c) (cells s c)) (λ n. refl)
    (λ p d e. everywhere s (state_after s d) h (command-lengths s d h) c _ _ (command-cells s h d (accepted-checked p d e) c))
    (everywhere s (state_at_power_up s) h (power_up-lengths s h) c _ _ (λ _. power_up-cells s c)) s h x

-- ---- a state is no more than its cells
input-whole : (a b : AnalogInput) → input_bytes a ≡ input_bytes b → a ≡ b
input-whole a b e =
    let at : (n : ℕ) → get_or (input_bytes a) n 0 ≡ get_or (input_bytes b) n 0 = λ n. ap (λ (l : List ℕ). get_or l n 0) e in
    let rest : a.offset ≡ b.offset = ap (drop 3) e in
    λ i. record { channel = at 0 i; readings = at 1 i; reference = at 2 i; offset = rest i }

settings-whole : (t u : Settings) → length t.analog_inputs ≡ length u.analog_inputs
    → ((x : Setting) → (setting_held t x ∷ []) ≡ (setting_held u x ∷ [])) → ((n : ℕ) → input_bytes (input_at t n) ≡ input_bytes (input_at u n)) → t ≡ u
settings-whole t u h byte row =
    let at : (x : Setting) → setting_held t x ≡ setting_held u x = λ x. ap (λ (l : List ℕ). get_or l 0 0) (byte x) in
    let rows : t.analog_inputs ≡ u.analog_inputs =
    ext_get_or no_input t.analog_inputs u.analog_inputs h (λ i l. input-whole _ _ (row (suc i))) in
    λ i. record {
      line_mask = at line_mask_code i;
      latch_mask = at latch_mask_code i;
      tx_power = at tx_power_code i;
      control_source = at control_source_code i;
      message_select = at message_select_code i;
      analog_inputs = rows i;
      interrupt_mask = at interrupt_mask_code i;
    }

-- two lists that end in one byte each are equal where their fronts and those bytes are
ends : (a b : List ℕ) (x y : ℕ) → a ++ x ∷ [] ≡ b ++ y ∷ [] → (a ≡ b) × (x ≡ y)
ends [] [] x y e = (refl, cc)
ends [] (c ∷ []) x y e = absurd (omega (arith, ap length e))
ends [] (c ∷ d ∷ b) x y e = absurd (omega (arith, ap length e))
ends (c ∷ []) [] x y e = absurd (omega (arith, ap length e))
ends (c ∷ d ∷ a) [] x y e = absurd (omega (arith, ap length e))
ends (c ∷ a) (d ∷ b) x y e =
    let t : a ++ x ∷ [] ≡ b ++ y ∷ [] = cc in
    let k : c ≡ d = cc in
    let ih : (a ≡ b) × (x ≡ y) = ends a b x y t in
    let l : a ≡ b = ih.0 in
    (cc, ih.1)

slot_whole : (a b : Slot) → slot_bytes a ≡ slot_bytes b → a ≡ b
slot_whole a b e =
    let p = ends a.address b.address a.mask b.mask e in
    λ i. record { address = p.0 i; mask = p.1 i }

cells_are-all : (s t : ModuleState) → ArrayLengths s → ArrayLengths t → ((c : Cell) → cells s c ≡ cells t c) → s ≡ t
unfolding cells
cells_are-all s t h g e =
    let n = settings-whole s.stored.settings t.stored.settings (h.stored_inputs ∙ sym g.stored_inputs) (λ x. e (copy_of nv (setting x))) (λ i. e (copy_of nv (input i))) in
    let w =
    settings-whole s.working.settings t.working.settings (h.working_inputs ∙ sym g.working_inputs)
    (λ x. e (copy_of working (setting x))) (λ i. e (copy_of working (input i))) in
    let l : s.stored.slots ≡ t.stored.slots = ext_get_or no_slot s.stored.slots t.stored.slots (h.slot_count_lem ∙ sym g.slot_count_lem) (λ i _. slot_whole _ _ (e (copy_of nv (slot i)))) in
    let byte : (x : Single) → get_or (single_held s x) 0 0 ≡ get_or (single_held t x) 0 0 = λ x. ap (λ (v : List ℕ). get_or v 0 0) (e (single x)) in
    λ i. record {
      stored = record {
        name = e (single name) i;
        firmware = e (single firmware) i;
        serial = e (single serial) i;
        address = e (copy_of nv address) i;
        settings = n i;
        slots = l i;
      };
      working = record { settings = w i };
      live = record {
        lines = e (single lines) i;
        rssi = e (single rssi) i;
        ladj = byte ladj i;
        events = byte events i;
        flags = byte flags i;
        hardware = record { power = byte hardwarePower i; line_mask = byte hardwareLineMask i; latch_mask = byte hardwareLatchMask i };
      };
    }

pub follows : Follows model machine
follows = record { admissible_kept = lengths-kept; cells_agree = cells_agree; result-agrees = result-agrees; cells_are-all = cells_are-all }
