-- Each refusal's test is the definition's, and past both the calls give the sum and the clamped readout.
use Rattle.std.proofs.Common.{◌≤◌, length, sym, ◌∙◌, arith, rules}
use Rattle.analog.proofs.Readings.{sum_bounded, mean_bounded}
use Rattle.analog.proofs.readout.Goals as goal

pub overflow_mul-base : goal.overflow_mul-base
overflow_mul-base c =
    let few : length c.args.readings.now ≤ 65536 = search rules in
    let mean = sum_bounded c.args.readings.now (sym c.any_over.ensures ∙ c.if-any_over.false) in
    omega (arith, c.sum.ensures)

pub with_offset-requires : goal.with_offset-requires
with_offset-requires c =
    mean_bounded _ _ (rw c.sum.ensures (sum_bounded c.args.readings.now (sym c.any_over.ensures ∙ c.if-any_over.false)))
