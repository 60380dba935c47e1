-- As much is moved as has to be kept.
use Rattle.std.proofs.Common.{List, ℕ, take, ap, ◌∙◌, arith}
use Rattle.replay.proofs.Kept.{moved}
use Rattle.replay.proofs.keep.Goals as goal

pub returns : goal.returns
returns c = (
  omega (arith, c.min-count.ensures),
  omega (arith, c.min-count.ensures),
  ap (λ (l : List ℕ). take c.min-count.result l) c.copy_within.ensures.after ∙ moved c.args.input.now c.args.from c.args.end c.min-count.result c.requires.0 c.requires.1 c.min-count.ensures,
)
