-- The module and the reference model hold the same states for valid.
-- Assumes nothing.
use Prim.Native.Nat.{ℕ, zero, suc}
use mathlib.Core.Path.{◌≡◌, refl, sym, ap, ◌∙◌, ap₂, subst}
use mathlib.Core.List.{List, [], ◌∷◌}
use mathlib.Core.Bool.{Bool, true, false, ◌&&◌}
use lib.ListN.{length, get_or}
use Rattle.logic.specs.Lists.{all_below}
use Rattle.cdi_item.specs.Values.{accepted_value}
use Rattle.cdi_state.specs.declared.Slot.{Slot}
use Rattle.cdi_state.specs.declared.ModuleState.{ModuleState}
use Rattle.cdi_state.specs.State.{slot_bytes, no_slot, ArrayLengths}
use Rattle.cdi_valid.specs.Valid.{valid_settings, valid_slot, valid_slots, is_valid}
use Rattle.cdi_model.specs.Cells.{nv, working}
use Rattle.cdi_model.specs.Values.{accepted_slot}
use Rattle.cdi_model.specs.Model.{valid_copy, is_valid as isValidCells}
use Rattle.cdi_module.specs.Machine.{cells}

-- a test of all numbers below one more, from the first on
all-from-first : (n : ℕ) (ok : ℕ → Bool) → all_below (suc n) ok ≡ (ok 0 && all_below n (λ i. ok (suc i)))
unfolding all_below
all-from-first zero ok = refl
all-from-first (suc n) ok = ap (λ (t : Bool). ok (suc n) && t) (all-from-first n ok) ∙ exchanged (ok (suc n)) (ok 0) (all_below n (λ i. ok (suc i)))
  where
    exchanged : (a b c : Bool) → (a && (b && c)) ≡ (b && (a && c))
    exchanged true b c = refl
    exchanged false true c = refl
    exchanged false false c = refl

slot_agrees : (x : Slot) → valid_slot x ≡ accepted_slot (slot_bytes x)
unfolding accepted_value
slot_agrees x = refl

slots-agree : (l : List Slot) → valid_slots l ≡ all_below (length l) (λ i. accepted_slot (slot_bytes (get_or l i no_slot)))
unfolding all_below
slots-agree [] = refl
slots-agree (x ∷ l) =
    ap₂ ◌&&◌ (slot_agrees x) (slots-agree l) ∙ sym (all-from-first (length l) (λ i. accepted_slot (slot_bytes (get_or (x ∷ l) i no_slot))))

settings-agree : (s : ModuleState) → (valid_settings s.stored.settings ≡ valid_copy (cells s) nv) × (valid_settings s.working.settings ≡ valid_copy (cells s) working)
unfolding cells accepted_value
settings-agree s = (refl, refl)

pub validity_agrees : (s : ModuleState) → ArrayLengths s → is_valid s ≡ isValidCells (cells s)
unfolding is_valid isValidCells cells
validity_agrees s h =
    let slots : valid_slots s.stored.slots ≡ all_below 40 (λ i. accepted_slot (slot_bytes (get_or s.stored.slots i no_slot))) =
    subst (λ (n : ℕ). valid_slots s.stored.slots ≡ all_below n (λ i. accepted_slot (slot_bytes (get_or s.stored.slots i no_slot)))) h.slot_count_lem (slots-agree s.stored.slots) in
    rw ((settings-agree s).0, (settings-agree s).1, slots)
