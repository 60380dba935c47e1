-- Each turn answers the line that starts behind the lines before it.
use Rattle.std.proofs.Common.{length, ◌-◌, ◌≤◌, ◌≡◌}
use Rattle.cdi_state.specs.State.{ArrayLengths}
use Rattle.cdi_valid.specs.Valid.{is_valid}
use Rattle.replay_lines.specs.Progress.{block_max}
use Rattle.replay_lines.proofs.Answering.{SoFar}
use Rattle.replay_lines.proofs.replay_lines.Given as goal

abbrev pub invariant-loop-block : goal.invariant-loop-block
invariant-loop-block l =
    record {
      output_kept : length l.output ≡ length l.initial.output;
      block_kept : length l.block ≡ block_max;
      inside : l.start ≤ length l.input;
      so_far : SoFar l.initial.current l.input l.initial.output l.current l.start l.used l.output;
      lengths : ArrayLengths l.current;
      valid_kept : l.valid ≡ is_valid l.current;
    }

abbrev pub decreases-loop-block : goal.decreases-loop-block
decreases-loop-block l = length l.input - l.start
