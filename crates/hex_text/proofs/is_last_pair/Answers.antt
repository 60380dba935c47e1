-- Two characters are left, they are a pair, and a line ends behind them.
use Rattle.std.proofs.Common.{sym, ◌∙◌}
use Rattle.logic.proofs.Written.{part-rest}
use Rattle.hex_text.proofs.Ends.{last-short, no_last, last-here}
use Rattle.hex_text.proofs.is_last_pair.Goals as goal

pub returns-in_default : goal.returns-in_default
returns-in_default c = sym (last-short c.args.text.now c.in_default.len_below)

pub returns-then-is_pair : goal.returns-then-is_pair
returns-then-is_pair c =
    (rw (part-rest 2 c.args.text.now) at c.is_line_end.ensures) ∙ sym (last-here c.args.text.now c.in-len2-up.len_at_least (sym c.if-is_pair.ensures))

pub returns-else-is_pair : goal.returns-else-is_pair
returns-else-is_pair c = c.if-is_pair.false ∙ sym (no_last c.args.text.now (sym c.if-is_pair.ensures))
