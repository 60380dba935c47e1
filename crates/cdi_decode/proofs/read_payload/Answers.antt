-- Each kind of command has the function for its kind of response.
use Rattle.std.proofs.Common.{◌≡◌, sym, arith}
use Rattle.refusal.specs.Refusal.{accepted}
use Rattle.cdi_command.specs.Command.{validate_payload, payload_code}
use Rattle.cdi_command.specs.Check.{command_in, bare_command}
use Rattle.cdi_command.proofs.Accepted.{accepted-bounds}
use Rattle.cdi_decode.proofs.Commands.{reads-value, item_echo, bare_echo}
use Rattle.cdi_decode.proofs.read_payload.Goals as goal
use Rattle.cdi_decode.proofs.read_payload.Goals.{in_default-via-in-Some+else-is_read, in_default-via-in_default}

pub bounds-sent-0 : goal.bounds-sent-0
bounds-sent-0 c = omega (arith, (accepted-bounds _ _ c.requires.0).0)

pub read_value-requires : goal.read_value-requires
read_value-requires c =
    let is : validate_payload c.args.sent.now ≡ accepted (command_in c.in-Some.item c.args.sent.now) = rw c.in-Some.is at c.requires.0 in
    let r = reads-value c.args.sent.now c.in-Some.item is (sym c.if-is_read.ensures) in
    (r.listed, r.some, r.few, c.requires.1)

pub returns-in-Some : goal.returns-in-Some
returns-in-Some c =
    let is : validate_payload c.args.sent.now ≡ accepted (command_in c.in-Some.item c.args.sent.now) = rw c.in-Some.is at c.requires.0 in
    let r = reads-value c.args.sent.now c.in-Some.item is (sym c.if-is_read.ensures) in
    rw (c.in-Some.is, r.as_read c.args.payload.now) c.read_value.ensures

pub returns-in_default : goal.returns-in_default
returns-in_default c =
    elim c.in_default.branch [
      | in_default-via-in-Some+else-is_read w ↦
          let is : validate_payload c.args.sent.now ≡ accepted (command_in w.in-Some.item c.args.sent.now) = rw w.in-Some.is at c.requires.0 in
          rw (w.in-Some.is, item_echo c.args.sent.now c.args.payload.now w.in-Some.item is (sym w.if-is_read.ensures)) c.read_echo.ensures
      | in_default-via-in_default w ↦
          let is : validate_payload c.args.sent.now ≡ accepted (bare_command (payload_code c.args.sent.now)) = rw w.in_default.is at c.requires.0 in
          rw (w.in_default.is, bare_echo c.args.sent.now c.args.payload.now is) c.read_echo.ensures
    ]
