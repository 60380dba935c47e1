-- A payload that is accepted is short enough.
use Rattle.std.proofs.Common.{arith, sym}
use Rattle.cdi_command.proofs.Accepted.{accepted-bounds}
use Rattle.cdi_host.proofs.encode_command.Goals as goal

pub write_frame-requires : goal.write_frame-requires
write_frame-requires c = (omega arith, omega (arith, accepted-bounds c.args.payload.now _ (sym c.in_ok-validate_payload.ensures)), omega arith)
