-- A name has the function for its rule. Any other value has as many bytes as the item list says, and the item's own rule decides.
use Rattle.std.proofs.Common.{rules, sym, ap, ◌∙◌, arith}
use borrow.Author.Tests.{ne_eqb}
use Rattle.cdi_item.specs.Items.{analog_input, paired_module}
use Rattle.cdi_item.specs.Values.{accepted_value}
use Rattle.cdi_item.proofs.Consistent.{found-size}
use Rattle.cdi_decode.proofs.Shapes.{row-length}
use Rattle.cdi_decode.proofs.Wholes.{other_length, status-whole, input-whole, slot_whole, bytes_whole}
use Rattle.cdi_decode.proofs.value.Arrived.is_whole.Goals as goal

pub returns-then-self : goal.returns-then-self
returns-then-self c = sym (other_length c.args.self.now.item (ne_eqb _ _ c.if-self-eq-NAME.false) c.args.self.now.bytes.now c.if-self.true)

-- a value of the item's length has a first byte
pub bounds-self-0 : goal.bounds-self-0
bounds-self-0 c = omega (arith, c.if-self.false, (found-size _ c.args.self.now.item c.args.self.now.served).0)

pub row-requires : goal.row-requires
row-requires c = omega (arith, c.if-self.false, row-length c.args.self.now.item c.args.self.now.served (rw c.in-22.is))

pub row-requires-in-24 : goal.row-requires-in-24
row-requires-in-24 c = omega (arith, c.if-self.false, row-length c.args.self.now.item c.args.self.now.served (rw c.in-24.is))

pub first-requires : goal.first-requires
first-requires c = omega (arith, c.if-self.false, (found-size _ c.args.self.now.item c.args.self.now.served).0)

pub returns-in-35 : goal.returns-in-35
returns-in-35 c =
    c.accepts_flags.ensures ∙
    sym (status-whole c.args.self.now.item (ne_eqb _ _ c.if-self-eq-NAME.false) c.args.self.now.bytes.now c.args.self.now.served c.if-self.false c.in-35.is)

pub returns-in-22 : goal.returns-in-22
returns-in-22 c =
    c.accepts.ensures ∙ ap (accepted_value analog_input) c.row.ensures ∙
    sym
    (input-whole c.args.self.now.item (ne_eqb _ _ c.if-self-eq-NAME.false) c.args.self.now.bytes.now c.args.self.now.served c.if-self.false
    (rw c.in-22.is) c.in-22.is)

pub returns-in-24 : goal.returns-in-24
returns-in-24 c =
    c.accepts-in-24.ensures ∙ ap (accepted_value paired_module) c.row-in-24.ensures ∙
    sym
    (slot_whole c.args.self.now.item (ne_eqb _ _ c.if-self-eq-NAME.false) c.args.self.now.bytes.now c.args.self.now.served c.if-self.false
    (rw c.in-24.is) c.in-24.is)

pub returns-in_default : goal.returns-in_default
returns-in_default c =
    c.accepts-in_default.ensures ∙ ap (accepted_value c.args.self.now.item.code) c.first.ensures ∙
    sym
    (bytes_whole c.args.self.now.item (ne_eqb _ _ c.if-self-eq-NAME.false) c.args.self.now.bytes.now c.args.self.now.served c.if-self.false
    (search rules) (search rules) (search rules))
