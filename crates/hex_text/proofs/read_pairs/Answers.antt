-- A line of pairs is hex unless it is too long, and has a byte for each three characters.
use Rattle.std.proofs.Common.{refl, arith}
use Rattle.hex_text.proofs.Lines.{too_long, not_blank, some_pairs, fits, does_not_fit}
use Rattle.hex_text.proofs.Pairs.{count}
use Rattle.hex_text.proofs.read_pairs.Goals as goal

pub returns-then-line-gt-LINE_MAX : goal.returns-then-line-gt-LINE_MAX
returns-then-line-gt-LINE_MAX c = rw (too_long c.args.line.now (omega arith)) (refl, refl)

-- past the first test the line is what `pairs` makes of it
pub returns-then-count-block : goal.returns-then-count-block
returns-then-count-block c =
    rw (not_blank c.args.line.now (omega arith) (some_pairs c.args.line.now c.requires)) (does_not_fit _ c.args.block.now c.requires (omega arith))

pub decode-requires : goal.decode-requires
decode-requires c = (c.requires, omega (arith, count _ c.requires), omega arith)

pub returns : goal.returns
returns c =
    rw (not_blank c.args.line.now (omega arith) (some_pairs c.args.line.now c.requires)) (fits _ c.args.block.now c.requires (omega arith), c.decode.ensures)
