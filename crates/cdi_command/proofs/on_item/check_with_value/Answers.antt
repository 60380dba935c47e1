-- What the check lets pass has its value tested if it carries one.
use Rattle.std.proofs.Common.{sym, ap, ◌∙◌}
use Rattle.cdi_command.specs.Command.{payload_code, payload_index, value_of}
use Rattle.cdi_command.specs.Check.{is_read_code}
use Rattle.cdi_command.proofs.Checks.{read-accepted, value-accepted}
use Rattle.cdi_command.proofs.on_item.check_with_value.Goals as goal
use Rattle.cdi_command.proofs.on_item.check_with_value.Goals.{else-not-is_read-via-then-not-is_read+else-not-accepts_value_in, else-not-is_read-via-else-not-is_read}

pub returns-then-not-accepts_value_in : goal.returns-then-not-accepts_value_in
returns-then-not-accepts_value_in c =
    let item = c.args.item in
    let s = c.args.payload.now in
    let other = ap is_read_code (sym c.byte_at.ensures) ∙ sym c.if-not-is_read.ensures in
    let accepts = value-accepted item (payload_code s) (value_of item s) (payload_index s) other in
    rw (← c.in_ok-check_item.ensures, accepts, ← c.if-not-accepts_value_in.ensures)

pub returns : goal.returns
returns c =
    let item = c.args.item in
    let s = c.args.payload.now in
    elim c.else-not-is_read.branch [
      | else-not-is_read-via-then-not-is_read+else-not-accepts_value_in w ↦
          let other = ap is_read_code (sym c.byte_at.ensures) ∙ sym w.if-not-is_read.ensures in
          let accepts = value-accepted item (payload_code s) (value_of item s) (payload_index s) other in
          rw (← c.in_ok-check_item.ensures, accepts, ← w.if-not-accepts_value_in.ensures)
      | else-not-is_read-via-else-not-is_read w ↦
          let reads = ap is_read_code (sym c.byte_at.ensures) ∙ sym w.if-not-is_read.ensures in
          rw (← c.in_ok-check_item.ensures, read-accepted item (payload_code s) (value_of item s) (payload_index s) reads)
    ]
