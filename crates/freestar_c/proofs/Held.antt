-- The struct behind the reference of the entry is the settings of a radio.
-- Assumes nothing.
use Rattle.freestar_settings.specs.contracts.Settings.{the_type}
use Rattle.freestar_settings.proofs.Settings.TheLaws.{the_laws, the_plain}
use Rattle.in_place.proofs.InPlace.{Held}

abbrev pub settings : Held
settings = record { type = the_type; laws = the_laws; plain = the_plain }
