-- Each slot is made of its row.
use Rattle.std.proofs.Common.{◌<◌, ◌≢◌, length, ap, ◌∙◌, arith, length-set, get_or-set_other, get_or-set_same, below_more}
use Rattle.cdi_state.specs.State.{slot_in}
use Rattle.cdi_image.proofs.Rows.{slots_made}
use Rattle.cdi_image.proofs.read.slots_in.Goals as goal

pub loop-i-preserved : goal.loop-i-preserved
loop-i-preserved c =
    let lt : c.loop-i.i < length c.loop-i.slot-items = omega arith in (
      rw length-set c.loop-i.invariant.0,
      below_more _ _
          (λ k h. let ne : k ≢ c.loop-i.i = omega arith in rw get_or-set_other (c.loop-i.invariant.1 k h))
          (rw get_or-set_same (c.from.ensures ∙ ap slot_in c.part.ensures)),
    )

pub returns : goal.returns
returns c = slots_made 40 _ c.args.rows.now c.loop-i.invariant.0 (λ k h. c.loop-i.invariant.1 k (omega arith))
