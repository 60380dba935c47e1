-- The place reached and the pairs with a space from there on are what they were at the start.
use Rattle.std.proofs.Common.{◌≡◌, ◌+◌, ◌≤◌, length, drop, ◌-◌}
use Rattle.hex_text.specs.Scan.{spaced}
use Rattle.hex_text.proofs.skip_pairs.Given as goal

abbrev pub invariant-loop-i : goal.invariant-loop-i
invariant-loop-i l = record { within : l.i ≤ length l.text; same : l.i + spaced (drop l.i l.text) ≡ spaced l.text }

abbrev pub decreases-loop-i : goal.decreases-loop-i
decreases-loop-i l = length l.text - l.i
