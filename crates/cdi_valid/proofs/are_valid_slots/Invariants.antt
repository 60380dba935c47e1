-- Whether all slots are valid is whether those passed are and those of the rest are.
use Rattle.std.proofs.Common.{◌≡◌, ◌&&◌, drop}
use Rattle.cdi_valid.specs.Valid.{valid_slots}
use Rattle.cdi_valid.proofs.are_valid_slots.Given as goal

abbrev pub invariant-loop-slot : goal.invariant-loop-slot
invariant-loop-slot l = valid_slots l.slots ≡ l.valid && valid_slots (drop l.slot-index l.slots)
