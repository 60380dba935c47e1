-- The slots that were read have addresses of four bytes.
use Rattle.std.proofs.Common.{◌≡◌, ℕ, ◌<◌, get_or, length}
use Rattle.cdi_state.specs.State.{no_slot}
use Rattle.cdi_state.proofs.ModuleState.array_lengths.Given as goal

abbrev pub invariant-loop-slot : goal.invariant-loop-slot
invariant-loop-slot l = (k : ℕ) → k < l.slot-index → length (get_or l.slot-items k no_slot).address ≡ 4
