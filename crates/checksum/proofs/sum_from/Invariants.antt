-- `sum_from` meets its contract: what is added so far and what is still to be added come to the whole sum.
use Rattle.std.proofs.Common.{◌≡◌, ◌+◌, ◌%◌, ◌<◌, drop}
use Rattle.checksum.specs.Checksum.{byte_sum, sum_from}
use Rattle.checksum.proofs.sum_from.Given as goal

abbrev pub invariant-loop-byte : goal.invariant-loop-byte
invariant-loop-byte l = record {
  is_byte : l.sum < 256;
  so_far : sum_from l.start l.bytes ≡ (l.sum + byte_sum (drop l.byte-index l.byte-items)) % 256;
}
