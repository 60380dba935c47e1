-- The inputs that were read have offsets of two bytes.
use Rattle.std.proofs.Common.{◌≡◌, ℕ, ◌<◌, get_or, length}
use Rattle.cdi_state.specs.State.{no_input}
use Rattle.cdi_state.proofs.offset_lengths.Given as goal

abbrev pub invariant-loop-input : goal.invariant-loop-input
invariant-loop-input l = (k : ℕ) → k < l.input-index → length (get_or l.inputs k no_input).offset ≡ 2
