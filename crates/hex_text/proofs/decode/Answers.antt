-- Each pair stands in the table of values, and its two values make the byte.
use Rattle.std.proofs.Common.{refl, sym, ap, ◌∙◌, arith}
use Rattle.std.proofs.Math.Seq.{sets}
use Rattle.logic.proofs.Rest.{nothing_left}
use Rattle.logic.proofs.Written.{sets_more}
use Rattle.hex_text.proofs.Pairs.{count, pair-here, all-written}
use Rattle.hex_text.proofs.decode.Goals as goal

pub loop-n-init : goal.loop-n-init
loop-n-init c = record { whole = omega (arith, count _ c.requires.0); left = refl }

pub overflow_sub-high : goal.overflow_sub-high
overflow_sub-high c = (pair-here _ c.requires.0 c.loop-n.n (omega arith)).high_place.0

pub bounds-values-line : goal.bounds-values-line
bounds-values-line c = omega (arith, (pair-here _ c.requires.0 c.loop-n.n (omega arith)).high_place)

pub overflow_sub-low : goal.overflow_sub-low
overflow_sub-low c = (pair-here _ c.requires.0 c.loop-n.n (omega arith)).low_place.0

pub bounds-values-line-in-loop-n : goal.bounds-values-line-in-loop-n
bounds-values-line-in-loop-n c = omega (arith, (pair-here _ c.requires.0 c.loop-n.n (omega arith)).low_place)

pub overflow_add-block : goal.overflow_add-block
overflow_add-block c = let here = pair-here _ c.requires.0 c.loop-n.n (omega arith) in omega (arith, here.value, here.fits)

pub loop-n-preserved : goal.loop-n-preserved
loop-n-preserved c =
    let here = pair-here _ c.requires.0 c.loop-n.n (omega arith) in
    record {
      whole = c.loop-n.invariant.whole;
      left = c.loop-n.invariant.left ∙ sets_more c.loop-n.block c.loop-n.n _ _ (omega arith) (sym here.value);
    }

pub returns : goal.returns
returns c =
    sym
    (all-written _ c.requires.0 _ (omega arith) ∙ c.loop-n.invariant.left ∙
    ap (sets c.loop-n.block c.loop-n.n) (nothing_left _ c.loop-n.n (omega arith)))
