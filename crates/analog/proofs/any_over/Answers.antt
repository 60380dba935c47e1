-- `any` answers what the definition does.
use Rattle.std.proofs.Common.{refl, rules}
use Rattle.std.proofs.lemmas.List.Recursion.{or_is}
use lib.Dec.{ltb}
use Rattle.analog.specs.Analog.{any_over, reading_max}
use Rattle.analog.proofs.any_over.Goals as goal

pub returns : goal.returns
returns c = or_is any_over (λ r. ltb reading_max r) refl (λ r rs. refl) c.args.readings.now 0 _ (λ e. search rules) (λ e. search rules)
