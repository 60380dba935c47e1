-- Each turn goes on with those before it or is the last.
use Rattle.std.proofs.Common.{sym, add-one, arith}
use Rattle.std.proofs.lemmas.Result.{err_from_is_err_and}
use Rattle.replay.proofs.Turns.{none, used_all, one_more, all_done, failed}
use Rattle.replay.proofs.replay.Goals as goal

pub loop-turn-init : goal.loop-turn-init
loop-turn-init c = rw c.requires.2 (record { input_long = c.requires.0; output_long = c.requires.1; in_order = omega arith; within = omega arith; made = none })

pub returns-in_err-last : goal.returns-in_err-last
returns-in_err-last c =
    let why = err_from_is_err_and c.from_residual.result c.from_residual.ensures.1 in
    rw (why.1, why.2) (failed c.loop-turn.invariant.made _ c.in_err-last.ensures.2)

pub loop-turn-preserved : goal.loop-turn-preserved
loop-turn-preserved c =
    record {
      input_long = omega arith;
      output_long = omega arith;
      in_order = c.in_ok-last.ensures.0;
      within = c.in_ok-last.ensures.1;
      made = rw add-one (one_more c.loop-turn.invariant.made _ c.in_ok-last.ensures.2 (sym c.if-done.ensures));
    }

pub returns-then-done : goal.returns-then-done
returns-then-done c = all_done c.loop-turn.invariant.made _ c.in_ok-last.ensures.2 (sym c.if-done.ensures)

pub returns-after-loop-turn : goal.returns-after-loop-turn
returns-after-loop-turn c = used_all c.loop-turn.invariant.made (omega arith)
