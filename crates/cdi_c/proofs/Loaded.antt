-- What `keep` makes of a load's answer is what the definition tells of it.
-- Assumes nothing.
use Rattle.std.specs.Prelude.{◌≡◌, Ok, Err, refl}
use Rattle.std.specs.Prelude as std
use Rattle.refusal.specs.declared.Refusal.{Refusal}
use Rattle.refusal.specs.Refusal.{refusal_of}
use Rattle.refusal.specs.Numbers.{answer}
use Rattle.cdi_state.specs.declared.ModuleState.{ModuleState}
use Rattle.cdi_module.specs.Module.{state_left}
use Rattle.cdi_image.specs.Image.{loaded_as}

pub loaded_state : (s : ModuleState) (r : std.Result ModuleState Refusal) → state_left s r ≡ (loaded_as s (answer r)).state
loaded_state s (Ok t) = refl
loaded_state s (Err e) = refl

pub loaded_refusal : (s : ModuleState) (r : std.Result ModuleState Refusal) → refusal_of (answer r) ≡ (loaded_as s (answer r)).refusal
loaded_refusal s (Ok t) = refl
loaded_refusal s (Err e) = refl
