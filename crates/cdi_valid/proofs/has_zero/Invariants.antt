-- Whether a 00 is among the bytes is whether one is among those passed or among the rest.
use Rattle.std.proofs.Common.{◌≡◌, ◌||◌, drop}
use Rattle.logic.specs.Lists.{has_zero}
use Rattle.cdi_valid.proofs.has_zero.Given as goal

abbrev pub invariant-loop-byte : goal.invariant-loop-byte
invariant-loop-byte l = has_zero l.name ≡ l.found || has_zero (drop l.byte-index l.name)
