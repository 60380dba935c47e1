-- The turns so far are a chain from the first session to the present one.
use Rattle.std.proofs.Common.{◌≡◌, ◌≤◌, length}
use Rattle.logic.specs.Lists.{between}
use Rattle.replay.specs.Program.{buffer_size}
use Rattle.replay.proofs.Turns.{Made}
use Rattle.replay.proofs.replay.Given as goal

abbrev pub invariant-loop-turn : goal.invariant-loop-turn
invariant-loop-turn l =
    record {
      input_long : length l.input ≡ buffer_size;
      output_long : length l.output ≡ buffer_size;
      in_order : l.session.start ≤ l.session.end;
      within : l.session.end ≤ buffer_size;
      made : Made l._turn l.output l.session.state (between l.session.start l.session.end l.input) l.session.ended l.last;
    }
