-- What is left to write is the line of the bytes that are left, three characters for each.
use Rattle.std.proofs.Common.{◌≡◌, ◌*◌, length, drop}
use Rattle.std.proofs.Math.Seq.{sets}
use Rattle.response_text.specs.Text.{text_in_hex, printed}
use Rattle.response_text.proofs.encode.Given as goal

abbrev pub invariant-loop-n : goal.invariant-loop-n
invariant-loop-n l =
    record {
      room : length l.out ≡ length l.initial.out;
      left : sets l.initial.out 0 (printed (text_in_hex l.bytes)) ≡ sets l.out (3 * l.n) (printed (text_in_hex (drop l.n l.bytes)));
    }
