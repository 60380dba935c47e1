-- After a power-up the stored part decides whether the state is valid, so a part that is not valid is refused, and any other is loaded.
use Rattle.std.proofs.Common.{◌≡◌, refl, sym, ap, ◌∙◌}
use Rattle.refusal.specs.Refusal.{accepted}
use Rattle.cdi_state.specs.declared.ModuleState.{ModuleState}
use Rattle.cdi_valid.specs.Valid.{valid_stored, is_valid}
use Rattle.cdi_valid.proofs.Laws.{stored-decides}
use Rattle.cdi_store.specs.Store.{state_at_power_up}
use Rattle.cdi_image.specs.Image.{with_stored}
use Rattle.cdi_image.proofs.load_stored.Goals as goal

pub returns-then-not-is_valid : goal.returns-then-not-is_valid
returns-then-not-is_valid c =
    let after = state_at_power_up (with_stored c.args.state c.args.stored) in
    let decides : valid_stored c.args.stored ≡ c.is_valid.result = sym (c.is_valid.ensures ∙ ap is_valid c.powered_up-after.ensures ∙ stored-decides after refl refl) in
    rw (decides ∙ c.if-not-is_valid.true) refl

pub returns : goal.returns
returns c =
    let after = state_at_power_up (with_stored c.args.state c.args.stored) in
    let decides : valid_stored c.args.stored ≡ c.is_valid.result = sym (c.is_valid.ensures ∙ ap is_valid c.powered_up-after.ensures ∙ stored-decides after refl refl) in
    ap (λ (t : ModuleState). accepted t) c.powered_up-after.ensures ∙ rw (decides ∙ c.if-not-is_valid.false)
