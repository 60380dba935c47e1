-- That is what `replay_lines` promises of the characters that are not answered yet.
use Rattle.std.proofs.Common.{refl, arith}
use Rattle.replay.proofs.Left.{learnt}
use Rattle.replay.proofs.answer.Goals as goal

pub overflow_add-session : goal.overflow_add-session
overflow_add-session c =
    let call = c.replay_lines-progress in
    let known = learnt c.args.session.now c.args.input.now c.args.output.now call.new.output call.result c.requires call.auto.output call.ensures in
    omega (arith, known.start-within, c.requires.3)

pub returns : goal.returns
returns c =
    let call = c.replay_lines-progress in
    let known = learnt c.args.session.now c.args.input.now c.args.output.now call.new.output call.result c.requires call.auto.output call.ensures in
    record { within = known.text-within; left = (known.start-within, refl, refl); lines = known.lines }
