-- The slots so far are made of their rows.
use Rattle.std.proofs.Common.{◌≡◌, ℕ, ◌*◌, ◌<◌, get_or, length}
use Rattle.logic.specs.Lists.{part}
use Rattle.cdi_state.specs.State.{slot_in, no_slot}
use Rattle.cdi_image.proofs.read.slots_in.Given as goal

abbrev pub invariant-loop-i : goal.invariant-loop-i
invariant-loop-i l = (length l.slot-items ≡ 40) × ((k : ℕ) → k < l.i → get_or l.slot-items k no_slot ≡ slot_in (part (5 * k) 5 l.rows))
