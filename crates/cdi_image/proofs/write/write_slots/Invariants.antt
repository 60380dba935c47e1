-- What is put so far is the rows of the slots passed, five bytes each, so the next row goes behind them.
use Rattle.std.proofs.Common.{◌+◌, ◌*◌, ◌≡◌, length, take}
use mathlib.Core.List.{flat_map}
use Rattle.cdi_state.specs.State.{slot_bytes}
use Rattle.cdi_image.specs.Put.{Put}
use Rattle.cdi_image.proofs.write.write_slots.Given as goal

abbrev pub invariant-loop-i : goal.invariant-loop-i
invariant-loop-i l =
    (length l.contents ≡ length l.initial.contents) × Put l.initial.contents 43 (flat_map slot_bytes (take l.i l.slots)) (43 + 5 * l.i) l.contents
