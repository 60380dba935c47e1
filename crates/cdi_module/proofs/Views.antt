-- A state's settings, rows and other fields seen as lists: what is put into one place of a list is there, and nowhere else.
use Prim.Native.Nat.{ℕ, zero, suc, ◌<◌, ◌≤◌}
use mathlib.Core.Path.{◌≡◌, refl, sym, ap, ◌∙◌}
use mathlib.Core.List.{List, [], ◌∷◌}
use mathlib.Core.Bool.{cond}
use native.Mathlib.Omega.{arith}
use lib.Dec.{eqb, eqb-zero-suc, eqb-suc-suc}
use lib.ListN.{length, get_or, set, length-set}
use lib.Seq.{get_or-set_same, get_or-set_other}
use borrow.Author.Tests.{eqb-true, eqb-false}
use Rattle.logic.proofs.Choice.{by_cases}
use Rattle.cdi_state.specs.declared.AnalogInput.{AnalogInput}
use Rattle.cdi_state.specs.declared.Settings.{Settings}
use Rattle.cdi_state.specs.declared.ModuleState.{ModuleState}
use Rattle.cdi_state.specs.State.{input_bytes, no_input, input_at}
use Rattle.cdi_state.specs.State.{setting_bytes, place}
use Rattle.cdi_store.specs.Store.{with_bytes, setting_stored, input_stored}
use Rattle.cdi_model.specs.Cells.{Setting, line_mask_code, latch_mask_code, tx_power_code, control_source_code, message_select_code, interrupt_mask_code, Single, name, firmware, serial, lines, rssi, ladj, events, flags, hardwarePower, hardwareLineMask, hardwareLatchMask, setting_number, single_number}
use Rattle.cdi_module.specs.Machine.{setting_held, single_held}

-- a row put into a list: the one fact that settings, inputs and slots share, over the row number
pub put-at : {A : Type 0} (f : A → List ℕ) (l : List A) (i j : ℕ) (a d : A) → j < length l
    → f (get_or (set l j a) i d) ≡ cond (eqb i j) (f a) (f (get_or l i d))
put-at f l i j a d h =
    by_cases (eqb i j)
    (λ p. rw p (rw (eqb-true i j p) (ap f (get_or-set_same l j a d h))))
    (λ p. rw p (ap f (get_or-set_other l j i a d (eqb-false i j p))))

-- ---- settings
with_held : (t : Settings) (l : List ℕ) (x : Setting) → setting_held (with_bytes t l) x ≡ get_or l (setting_number x) 0
with_held t l line_mask_code = refl
with_held t l latch_mask_code = refl
with_held t l tx_power_code = refl
with_held t l control_source_code = refl
with_held t l message_select_code = refl
with_held t l interrupt_mask_code = refl

-- settings are what their own bytes make of them
pub held_at : (t : Settings) (x : Setting) → setting_held t x ≡ get_or (setting_bytes t) (setting_number x) 0
held_at t x = with_held t (setting_bytes t) x

number-below : (x : Setting) → setting_number x < 6
number-below line_mask_code = omega arith
number-below latch_mask_code = omega arith
number-below tx_power_code = omega arith
number-below control_source_code = omega arith
number-below message_select_code = omega arith
number-below interrupt_mask_code = omega arith

-- one fact for all settings of one byte
pub setting-put : (t : Settings) (code byte : ℕ) (x y : Setting) → place code ≡ setting_number y
    → (setting_held (setting_stored t code byte) x ∷ []) ≡ cond (eqb (setting_number x) (setting_number y)) (byte ∷ []) (setting_held t x ∷ [])
unfolding setting_stored
setting-put t code byte x y e =
    ap (λ (b : ℕ). b ∷ []) (with_held t (set (setting_bytes t) (place code) byte) x)
    ∙ rw e (rw (held_at t x) (put-at (λ (b : ℕ). b ∷ []) (setting_bytes t) (setting_number x) (setting_number y) byte 0 (number-below y)))

-- storing a setting leaves the inputs, and storing an input the settings
pub setting-leaves_inputs : (t : Settings) (code byte n : ℕ) → input_at (setting_stored t code byte) n ≡ input_at t n
unfolding setting_stored
setting-leaves_inputs t code byte zero = refl
setting-leaves_inputs t code byte (suc i) = refl

pub input-leaves-settings : (t : Settings) (n : ℕ) (a : AnalogInput) (x : Setting) → setting_held (input_stored t n a) x ≡ setting_held t x
input-leaves-settings t zero a x = refl
input-leaves-settings t (suc i) a line_mask_code = refl
input-leaves-settings t (suc i) a latch_mask_code = refl
input-leaves-settings t (suc i) a tx_power_code = refl
input-leaves-settings t (suc i) a control_source_code = refl
input-leaves-settings t (suc i) a message_select_code = refl
input-leaves-settings t (suc i) a interrupt_mask_code = refl

-- the row of an input, from 1 on
pub input-put : (t : Settings) (i n : ℕ) (a : AnalogInput) → length t.analog_inputs ≡ 2 → 1 ≤ n → n ≤ 2
    → input_bytes (input_at (input_stored t n a) i) ≡ cond (eqb i n) (input_bytes a) (input_bytes (input_at t i))
input-put t i zero a h p q = absurd (omega arith)
input-put t zero (suc j) a h p q = rw eqb-zero-suc
input-put t (suc i) (suc j) a h p q = rw eqb-suc-suc (put-at input_bytes t.analog_inputs i j a no_input (omega arith))

pub inputs_length : (t : Settings) (n : ℕ) (a : AnalogInput) → length (input_stored t n a).analog_inputs ≡ length t.analog_inputs
inputs_length t zero a = refl
inputs_length t (suc i) a = length-set t.analog_inputs i a

-- ---- the cells that no command stores in, as a list: what leaves their fields leaves them
abbrev pub singles : ModuleState → List (List ℕ)
singles s =
    s.stored.name ∷ s.stored.firmware ∷ s.stored.serial ∷ s.live.lines ∷ s.live.rssi ∷ (s.live.ladj ∷ []) ∷ (s.live.events ∷ []) ∷ (s.live.flags ∷ []) ∷
    (s.live.hardware.power ∷ []) ∷ (s.live.hardware.line_mask ∷ []) ∷ (s.live.hardware.latch_mask ∷ []) ∷ []

single-at : (s : ModuleState) (x : Single) → single_held s x ≡ get_or (singles s) (single_number x) []
single-at s name = refl
single-at s firmware = refl
single-at s serial = refl
single-at s lines = refl
single-at s rssi = refl
single-at s ladj = refl
single-at s events = refl
single-at s flags = refl
single-at s hardwarePower = refl
single-at s hardwareLineMask = refl
single-at s hardwareLatchMask = refl

pub same-singles : (s t : ModuleState) (x : Single) → singles s ≡ singles t → single_held s x ≡ single_held t x
same-singles s t x e = single-at s x ∙ ap (λ (l : List (List ℕ)). get_or l (single_number x) []) e ∙ sym (single-at t x)
