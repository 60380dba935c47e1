-- A state that is made of cells which hold values that fit: its cells are those, and it is valid.
-- Assumes nothing.
use Prim.Native.Nat.{ℕ, zero, suc, ◌<◌}
use mathlib.Core.Path.{◌≡◌, refl, ◌∙◌}
use mathlib.Core.Bool.{true, false, ◌&&◌, and-eq-true_iff}
use mathlib.Core.List.{List, [], ◌∷◌}
use native.Mathlib.Omega.{arith}
use borrow.Author.Tests.{ltb-true, lt-ltb}
use lib.ListN.{length, get_or, length-drop}
use lib.Seq.{length-take-le}
use Rattle.logic.proofs.Places.{all_is_bytes}
use Rattle.cdi_state.specs.declared.Settings.{Settings}
use Rattle.cdi_state.specs.declared.ModuleState.{ModuleState}
use Rattle.cdi_state.specs.State.{input_bytes, input_in, slot_in, no_slot, input_at, ArrayLengths, OffsetLengths, FieldLengths}
use Rattle.cdi_state.proofs.Rows.{input-written, slot_written}
use Rattle.cdi_model.specs.Cells.{Copy, nv, working, Setting, line_mask_code, latch_mask_code, tx_power_code, control_source_code, message_select_code, interrupt_mask_code, Key, setting, input, slot, address, Single, name, firmware, serial, lines, rssi, ladj, events, flags, hardwarePower, hardwareLineMask, hardwareLatchMask, Cell, copy_of, single, has_working, is_key, is_cell}
use Rattle.cdi_model.specs.Values.{byte_of}
use Rattle.cdi_model.specs.Model.{Cells}
use Rattle.cdi_model.specs.Factory.{factory_single}
use Rattle.cdi_model.proofs.Validity.{each-input, takes-valid}
use Rattle.cdi_module.specs.Machine.{setting_held, cells}
use Rattle.cdi_module.proofs.Validity.{validity_agrees}
use Rattle.cdi_responses.specs.Held.{ValidState}
use Rattle.cdi_responses.proofs.Fit.{Fits, AllFit}

-- ---- a list of n elements, each told by its place
module _ {A : Type 0} where
  unfoldable pub list_of : ℕ → (ℕ → A) → List A
  list_of zero at = []
  list_of (suc n) at = at 0 ∷ list_of n (λ i. at (suc i))

  list_length : (n : ℕ) (at : ℕ → A) → length (list_of n at) ≡ n
  unfolding list_of
  list_length zero at = refl
  list_length (suc n) at = rw (list_length n (λ i. at (suc i)))

  list_at : (n : ℕ) (at : ℕ → A) (d : A) (i : ℕ) → i < n → get_or (list_of n at) i d ≡ at i
  unfolding list_of
  list_at zero at d i h = absurd (omega arith)
  list_at (suc n) at d zero h = refl
  list_at (suc n) at d (suc i) h = list_at n (λ j. at (suc j)) d i (omega arith)

-- ---- the state: each field is what its cell holds
abbrev settings_of : Cells → Copy → Settings
settings_of f copy = record {
  line_mask = byte_of (f (copy_of copy (setting line_mask_code)));
  latch_mask = byte_of (f (copy_of copy (setting latch_mask_code)));
  tx_power = byte_of (f (copy_of copy (setting tx_power_code)));
  control_source = byte_of (f (copy_of copy (setting control_source_code)));
  message_select = byte_of (f (copy_of copy (setting message_select_code)));
  analog_inputs = input_in (f (copy_of copy (input 1))) ∷ input_in (f (copy_of copy (input 2))) ∷ [];
  interrupt_mask = byte_of (f (copy_of copy (setting interrupt_mask_code)));
}

abbrev pub state_of : Cells → ModuleState
state_of f = record {
  stored = record {
    name = f (single name);
    firmware = f (single firmware);
    serial = f (single serial);
    address = f (copy_of nv address);
    settings = settings_of f nv;
    slots = list_of 40 (λ i. slot_in (f (copy_of nv (slot i))));
  };
  working = record { settings = settings_of f working };
  live = record {
    lines = f (single lines);
    rssi = f (single rssi);
    ladj = byte_of (f (single ladj));
    events = byte_of (f (single events));
    flags = byte_of (f (single flags));
    hardware = record {
      power = byte_of (f (single hardwarePower));
      line_mask = byte_of (f (single hardwareLineMask));
      latch_mask = byte_of (f (single hardwareLatchMask));
    };
  };
}

-- ---- a value is taken out of a field as it was put in: a byte, and each setting
one_byte : (v : List ℕ) → length v ≡ 1 → byte_of v ∷ [] ≡ v
one_byte v h = all_is_bytes 1 v h

setting-held : (f : Cells) (copy : Copy) (x : Setting) → setting_held (settings_of f copy) x ≡ byte_of (f (copy_of copy (setting x)))
setting-held f copy line_mask_code = refl
setting-held f copy latch_mask_code = refl
setting-held f copy tx_power_code = refl
setting-held f copy control_source_code = refl
setting-held f copy message_select_code = refl
setting-held f copy interrupt_mask_code = refl

module _ (f : Cells) (fit : AllFit f) where
  -- both copies of a setting and of an input fit
  at_copy : (copy : Copy) (k : Key) → is_key k && has_working k ≡ true → Fits (copy_of copy k) (f (copy_of copy k))
  at_copy nv k e = fit (copy_of nv k) ((and-eq-true_iff (is_key k) (has_working k)).0 e).0
  at_copy working k e = fit (copy_of working k) e

  -- so each cell of the state is back: a setting, an input, a slot and a live byte
  setting-back : (copy : Copy) (x : Setting) → setting_held (settings_of f copy) x ∷ [] ≡ f (copy_of copy (setting x))
  setting-back copy x = rw (setting-held f copy x) (one_byte (f (copy_of copy (setting x))) (at_copy copy (setting x) refl).sized)

  inputs_back : (copy : Copy) (n : ℕ) → is_key (input n) ≡ true → input_bytes (input_at (settings_of f copy) n) ≡ f (copy_of copy (input n))
  inputs_back copy =
      each-input (λ n. input_bytes (input_at (settings_of f copy) n) ≡ f (copy_of copy (input n)))
      (input-written (f (copy_of copy (input 1))) (at_copy copy (input 1) refl).sized)
      (input-written (f (copy_of copy (input 2))) (at_copy copy (input 2) refl).sized)

  slot_at : (i : ℕ) → i < 40 → get_or (state_of f).stored.slots i no_slot ≡ slot_in (f (copy_of nv (slot i)))
  slot_at = list_at 40 (λ i. slot_in (f (copy_of nv (slot i)))) no_slot

  single-back : (x : Single) → length (factory_single x) ≡ 1 → byte_of (f (single x)) ∷ [] ≡ f (single x)
  single-back x e = one_byte (f (single x)) ((fit (single x) refl).sized ∙ e)

  -- all cells of the state are those that it is made of
  pub cells-back : (c : Cell) → is_cell c ≡ true → cells (state_of f) c ≡ f c
  unfolding cells
  cells-back (copy_of nv (setting x)) e = setting-back nv x
  cells-back (copy_of nv (input n)) e = inputs_back nv n e
  cells-back (copy_of nv (slot i)) e =
      rw (slot_at i (ltb-true i 40 e)) (slot_written (f (copy_of nv (slot i))) (fit (copy_of nv (slot i)) e).sized)
  cells-back (copy_of nv address) e = refl
  cells-back (copy_of working (setting x)) e = setting-back working x
  cells-back (copy_of working (input n)) e = inputs_back working n ((and-eq-true_iff (is_key (input n)) true).0 e).0
  cells-back (copy_of working (slot i)) e = cc ((and-eq-true_iff (is_key (slot i)) false).0 e).1
  cells-back (copy_of working address) e = cc
  cells-back (single name) e = refl
  cells-back (single firmware) e = refl
  cells-back (single serial) e = refl
  cells-back (single lines) e = refl
  cells-back (single rssi) e = refl
  cells-back (single ladj) e = single-back ladj refl
  cells-back (single events) e = single-back events refl
  cells-back (single flags) e = single-back flags refl
  cells-back (single hardwarePower) e = single-back hardwarePower refl
  cells-back (single hardwareLineMask) e = single-back hardwareLineMask refl
  cells-back (single hardwareLatchMask) e = single-back hardwareLatchMask refl

  -- its arrays have their lengths
  array_lengths : ArrayLengths (state_of f)
  array_lengths = record { stored_inputs = refl; working_inputs = refl; slot_count_lem = list_length 40 (λ i. slot_in (f (copy_of nv (slot i)))) }

  offset_length : (copy : Copy) → OffsetLengths (settings_of f copy)
  offset_length copy zero h = omega (arith, length-drop 3 (f (copy_of copy (input 1))), (at_copy copy (input 1) refl).sized)
  offset_length copy (suc zero) h = omega (arith, length-drop 3 (f (copy_of copy (input 2))), (at_copy copy (input 2) refl).sized)
  offset_length copy (suc (suc i)) h = absurd (omega arith)

  slot_length : (i : ℕ) → i < 40 → length (get_or (state_of f).stored.slots i no_slot).address ≡ 4
  slot_length i h = rw (slot_at i h) (length-take-le 4 (f (copy_of nv (slot i))) (omega (arith, (fit (copy_of nv (slot i)) (lt-ltb i 40 h)).sized)))

  field_lengths : FieldLengths (state_of f)
  field_lengths = record {
    stored-lengths = record {
      name-length = (fit (single name) refl).sized;
      firmware-length = (fit (single firmware) refl).sized;
      serial-length = (fit (single serial) refl).sized;
      address-length = (fit (copy_of nv address) refl).sized;
      offset_length = offset_length nv;
      slot_address_length = slot_length;
    };
    working_offset_length = offset_length working;
    lines-length = (fit (single lines) refl).sized;
    rssi-length = (fit (single rssi) refl).sized;
  }

  -- so the state is valid
  pub state-valid : ValidState (state_of f)
  state-valid = record {
    valid = validity_agrees (state_of f) array_lengths ∙ takes-valid (cells (state_of f)) (λ c e. rw (cells-back c e) (fit c e).taken);
    array_lengths = array_lengths;
    field_lengths = field_lengths;
    in_bytes = λ c e. rw (cells-back c e) (fit c e).bytes;
  }
