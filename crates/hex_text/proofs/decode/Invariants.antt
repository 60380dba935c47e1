-- What is left to write is the block from the byte n on.
use Rattle.std.proofs.Common.{length, ◌≡◌, drop}
use Rattle.std.proofs.Math.Seq.{sets}
use Rattle.hex_text.specs.Hex.{pairs}
use Rattle.hex_text.proofs.Pairs.{bytes_of}
use Rattle.hex_text.proofs.decode.Given as goal

abbrev pub invariant-loop-n : goal.invariant-loop-n
invariant-loop-n l =
    record {
      whole : length (bytes_of (pairs l.line)) ≡ l.count;
      left : sets l.initial.block 0 (bytes_of (pairs l.line)) ≡ sets l.block l.n (drop l.n (bytes_of (pairs l.line)));
    }
