-- An address that is whole has a mask after it, which is tested with it.
use Rattle.std.proofs.Common.{rules, sym, ap, ◌∙◌}
use Rattle.cdi_item.specs.Values.{accepted_value, accepted_slot}
use Rattle.cdi_decode.proofs.Rules.{short_slot, whole_slot}
use Rattle.cdi_decode.proofs.Shapes.{row-length}
use Rattle.cdi_decode.proofs.value.Arrived.place_in_slot.Goals as goal

pub returns-then-self-lt-ROW_LENGTH : goal.returns-then-self-lt-ROW_LENGTH
returns-then-self-lt-ROW_LENGTH c =
    let x = c.args.self.now.item in
    sym (short_slot x c.requires (row-length x c.args.self.now.served (rw c.requires)) c.args.self.now.bytes.now (search rules))

pub returns-then-not-accepts : goal.returns-then-not-accepts
unfolding accepted_value
returns-then-not-accepts c =
    let x = c.args.self.now.item in
    let tested = c.if-not-accepts.ensures ∙ ap accepted_slot c.row.ensures in
    sym (whole_slot x c.requires (row-length x c.args.self.now.served (rw c.requires)) c.args.self.now.bytes.now (search rules) ∙ rw (← tested))

pub returns : goal.returns
unfolding accepted_value
returns c =
    let x = c.args.self.now.item in
    let tested = c.if-not-accepts.ensures ∙ ap accepted_slot c.row.ensures in
    sym (whole_slot x c.requires (row-length x c.args.self.now.served (rw c.requires)) c.args.self.now.bytes.now (search rules) ∙ rw (← tested))
