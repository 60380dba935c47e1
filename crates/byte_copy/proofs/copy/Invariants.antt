-- The bytes that are passed stand over the front of the buffer.
use Rattle.std.proofs.Common.{◌≡◌, take}
use Rattle.logic.specs.Written.{written}
use Rattle.byte_copy.proofs.copy.Given as goal

abbrev pub invariant-loop-i : goal.invariant-loop-i
invariant-loop-i l = l.out ≡ written l.initial.out (take l.i l.source)
