-- What Save writes Load takes, and gives back the same cells; what Load accepts Save writes again.
-- Assumes nothing.
use Prim.Native.Nat.{ℕ}
use mathlib.Core.Path.{◌≡◌, ap, ◌∙◌, subst}
use mathlib.Core.List.{List, ◌++◌}
use mathlib.Core.Bool.{Bool, true, not, ◌&&◌, and-eq-true_iff}
use lib.ListN.{drop}
use Rattle.logic.specs.Lists.{has_zero}
use Rattle.refusal.specs.Refusal.{accepted}
use Rattle.refusal.proofs.Results.{then-refused}
use Rattle.cdi_state.specs.declared.Stored.{Stored}
use Rattle.cdi_state.specs.declared.ModuleState.{ModuleState}
use Rattle.cdi_item.specs.Values.{accepted_flags}
use Rattle.cdi_valid.specs.Valid.{valid_settings, valid_slots, valid_stored, is_valid}
use Rattle.cdi_store.specs.Store.{state_at_power_up}
use Rattle.cdi_image.specs.Image.{mark, version1, head_size, contents_of, image_of, saved, stored_in, with_stored}
use Rattle.cdi_image.specs.Laws.{Reloaded, SaveThenLoad, AfterLoad, LoadThenSave}
use Rattle.cdi_image.proofs.Fit.{Fit, fit_loads, loads_fit, passed}
use Rattle.cdi_image.proofs.Contents.{contents_written, contents_length, contents_read}
use Rattle.cdi_image.proofs.Cells.{cells-after}

-- the first of two tests that both pass
first : (a b : Bool) → a && b ≡ true → a ≡ true
first a b e = ((and-eq-true_iff a b).0 e).0

-- ---- Save, then Load
stored-valid : (s : ModuleState) → is_valid s ≡ true → valid_stored s.stored ≡ true
unfolding is_valid
stored-valid s v = first (valid_stored s.stored) (valid_settings s.working.settings) (first _ (accepted_flags s.live.flags) v)

pub save_then_load : SaveThenLoad
unfolding saved
save_then_load s t inputs forty f image e =
    let x = s.stored in
    let v = then-refused (not (is_valid s)) _ _ image e in
    let same : image_of x ≡ image = cc in
    let back = contents_read x inputs forty f in
    let fit : Fit (contents_of x) = record {
      size = contents_length x inputs forty f;
      valid = ap valid_stored back ∙ stored-valid s (passed (is_valid s) v.0);
    } in
    subst (Reloaded s t) same (record {
      state = state_at_power_up (with_stored t x);
      taken = fit_loads t (contents_of x) fit ∙ ap (λ (y : Stored). accepted (state_at_power_up (with_stored t y))) back;
      same-cells = λ c k. cells-after t s c ∙ rw k;
    })

-- ---- Load, then Save
-- the power-up makes the working settings from the stored ones, and clears the flags
powered_up-valid : (s : ModuleState) → valid_stored s.stored ≡ true → is_valid (state_at_power_up s) ≡ true
unfolding is_valid
powered_up-valid s v =
    let x = s.stored in
    let settings = ((and-eq-true_iff (has_zero x.name) (valid_settings x.settings)).0 (first _ (valid_slots x.slots) v)).1 in
    rw (v, settings)

pub load_then_save : LoadThenSave
unfolding saved
load_then_save s image t e =
    let x = stored_in (drop head_size image) in
    let f = loads_fit s image t e in
    let valid = powered_up-valid (with_stored s x) f.0.valid in
    let again : image_of x ≡ image = ap (λ (l : List ℕ). mark ++ version1 ++ l) (contents_written (drop head_size image) f.0.size) ∙ f.1 in
    subst (AfterLoad s image) f.2 (record {
      valid = valid;
      saved-again = rw (valid, again);
      other-cells = λ c k. cells-after s (with_stored s x) c ∙ rw k;
    })
