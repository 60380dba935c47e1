-- The struct behind the reference of an entry is the state of a module.
-- Assumes nothing.
use Rattle.cdi_state.specs.contracts.ModuleState.{the_type}
use Rattle.cdi_state.proofs.ModuleState.TheLaws.{the_laws, the_plain}
use Rattle.in_place.proofs.InPlace.{Held}

abbrev pub module_state : Held
module_state = record { type = the_type; laws = the_laws; plain = the_plain }
