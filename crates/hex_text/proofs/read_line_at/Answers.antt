-- The line that starts at a place of a text is the first line of what stands from there on.
use Rattle.std.proofs.Common.{◌<◌, length, arith}
use Rattle.hex_text.proofs.Lines.{empty-fits}
use Rattle.hex_text.proofs.Ends.{index-within, past_end}
use Rattle.hex_text.proofs.read_line_at.Goals as goal

pub overflow_add-result : goal.overflow_add-result
overflow_add-result c = omega (arith, c.in-Some.ensures.lookup, index-within c.in-Some.rest.now)

pub returns-in-None : goal.returns-in-None
returns-in-None c =
    let beyond : length c.args.text.now < c.args.from = omega (arith, c.in-None.ensures.lookup) in
    let past = past_end c.args.text.now c.args.from beyond in
    let none = empty-fits c.args.block.now in
    rw past.1 (past.0, none.0, none.1)
