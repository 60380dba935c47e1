-- A pair with a space after it moves the place on by three, and at any other characters no such pair is left.
use Rattle.std.proofs.Common.{arith, sym}
use Rattle.hex_text.proofs.Spaced.{spaced-short, spaced-more, no_pair, no_space}
use Rattle.hex_text.proofs.skip_pairs.Goals as goal

pub returns-then-text-i-ne-SPACE : goal.returns-then-text-i-ne-SPACE
returns-then-text-i-ne-SPACE c = omega (arith, no_space c.args.text.now c.loop-i.i (omega arith) c.if-text-i-ne-SPACE.true)

pub returns-then-not-is_pair : goal.returns-then-not-is_pair
returns-then-not-is_pair c = omega (arith, no_pair c.args.text.now c.loop-i.i (omega arith) (sym c.if-not-is_pair.ensures))

pub loop-i-preserved : goal.loop-i-preserved
loop-i-preserved c =
    record {
      within = omega arith;
      same = omega (arith, spaced-more c.args.text.now c.loop-i.i (omega arith) (sym c.if-not-is_pair.ensures) c.if-text-i-ne-SPACE.false);
    }

pub returns : goal.returns
returns c = omega (arith, spaced-short c.args.text.now c.loop-i.i (omega arith))
