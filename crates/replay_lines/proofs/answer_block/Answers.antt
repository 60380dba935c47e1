-- The response is not empty and lies within its buffer, so its line is that of the answer.
use Rattle.std.proofs.Common.{arith}
use Rattle.std.proofs.Math.ListN.{replicate}
use Rattle.cdi_command.specs.Payload.{response_buffer_min}
use Rattle.replay_lines.proofs.Printed.{response-held}
use Rattle.replay_lines.proofs.answer_block.Goals as goal

pub write_outcome-requires : goal.write_outcome-requires
write_outcome-requires c = (
  response-held c.args.state (replicate response_buffer_min 0) _ (omega arith) c.args.decided c.respond-outcome.result c.respond-outcome.ensures.0,
  omega arith,
  c.requires,
)
