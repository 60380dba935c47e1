-- What is written so far: the first bytes of the packet and the parts that were passed, which leave room for the others.
use Rattle.std.proofs.Common.{take, ◌∷◌, ◌++◌, ◌+◌, ◌≤◌}
use Rattle.logic.specs.Written.{Writes}
use Rattle.coyote_packet.specs.Layout.{start, low_first}
use Rattle.coyote_packet.specs.Read.{payload_start}
use Rattle.coyote_encode.specs.Encode.{joined}
use Rattle.coyote_encode.proofs.write.Given as goal

abbrev pub invariant-loop-part : goal.invariant-loop-part
invariant-loop-part l = record {
  so_far : Writes (start ∷ l.kind ∷ (low_first l.size ++ joined (take l.part-index l.payload))) l.fn.packet l.packet l.end;
  room : l.end ≤ payload_start + l.size;
}
