-- The factory state is valid; and where the working settings are the stored ones and no flag is set, the stored part alone decides.
-- Assumes nothing.
use mathlib.Core.Path.{◌≡◌, refl}
use mathlib.Core.Bool.{Bool, true, false, ◌&&◌}
use Rattle.logic.specs.Lists.{has_zero}
use Rattle.cdi_item.specs.Values.{accepted_value}
use Rattle.cdi_state.specs.declared.ModuleState.{ModuleState}
use Rattle.cdi_state.specs.State.{factory_state}
use Rattle.cdi_valid.specs.Valid.{valid_settings, valid_slots, valid_stored, is_valid}

pub factory_valid : is_valid factory_state ≡ true
unfolding is_valid accepted_value
factory_valid = refl

-- what holds already need not be tested again
again : (a b c : Bool) → (((a && b) && c) && b) && true ≡ (a && b) && c
again true true true = refl
again true true false = refl
again true false true = refl
again true false false = refl
again false true true = refl
again false true false = refl
again false false true = refl
again false false false = refl

-- a state whose working settings are its stored ones, without flags, is valid where its stored part is
pub stored-decides : (s : ModuleState) → s.working.settings ≡ s.stored.settings → s.live.flags ≡ 0 → is_valid s ≡ valid_stored s.stored
unfolding is_valid
stored-decides s e f = rw (e, f) (again (has_zero s.stored.name) (valid_settings s.stored.settings) (valid_slots s.stored.slots))
