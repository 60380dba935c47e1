-- With no byte the line is a line feed, else it has three characters a byte, so that the room is known first.
use Rattle.std.proofs.Common.{◌<◌, ◌*◌, length, refl, sym, arith}
use Rattle.std.proofs.lemmas.Bool.{eqb-false}
use borrow.Author.Tests.{eqb-true, le-leb, lt-leb}
use Rattle.response_text.proofs.Text.{text_in_hex-empty, text_in_hex-length}
use Rattle.response_text.proofs.write_block.Goals as goal

pub returns-then-is_empty : goal.returns-then-is_empty
returns-then-is_empty c = rw (text_in_hex-empty _ (eqb-true _ _ (sym c.if-is_empty.ensures))) c.copy_line.ensures

pub returns-then-bytes-out : goal.returns-then-bytes-out
returns-then-bytes-out c =
    let some : 0 < length c.args.bytes.now = omega (arith, eqb-false _ _ (sym c.if-is_empty.ensures)) in
    simp (text_in_hex-length c.args.bytes.now some, lt-leb (3 * length c.args.bytes.now) (length c.args.out.now) (omega arith)) (refl, refl)

pub returns : goal.returns
returns c =
    let some : 0 < length c.args.bytes.now = omega (arith, eqb-false _ _ (sym c.if-is_empty.ensures)) in
    simp (text_in_hex-length c.args.bytes.now some, le-leb (3 * length c.args.bytes.now) (length c.args.out.now) (omega arith)) (refl, c.encode.ensures)
