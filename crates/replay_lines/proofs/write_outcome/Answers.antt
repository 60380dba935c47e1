-- So many bytes of the response are printed, whose line fits into the room for the longest.
use Rattle.std.proofs.Common.{arith, take}
use borrow.Author.Tests.{ne_eqb}
use Rattle.response_text.specs.Text.{text_in_hex}
use Rattle.replay_lines.proofs.Printed.{prints, response-short}
use Rattle.replay_lines.proofs.write_outcome.Goals as goal

pub returns-in-Ok : goal.returns-in-Ok
returns-in-Ok c =
    let within = rw c.in-Ok.is at c.requires.0 in
    let short = response-short c.args.response.now c.in-Ok.length within.0 within.1 (omega arith) in
    let text =
    prints (text_in_hex (take c.in-Ok.length c.args.response.now)) c.args.out.now c.write_block.new.out c.write_block.result short c.requires.2 c.write_block.ensures.0 c.write_block.ensures.1 in
    rw c.in-Ok.is (simp (ne_eqb c.in-Ok.length 0 (λ none. omega arith)) text)
