-- The first byte decides, by the item's own rule.
use Rattle.std.proofs.Common.{rules, sym, ap, ◌∙◌}
use Rattle.cdi_item.specs.Values.{accepted_value}
use Rattle.cdi_item.proofs.Consistent.{found-size}
use Rattle.cdi_decode.proofs.Rules.{empty-place, bytes-place}
use Rattle.cdi_decode.proofs.value.Arrived.place_in_bytes.Goals as goal

pub returns-then-is_empty : goal.returns-then-is_empty
returns-then-is_empty c = sym (empty-place c.args.self.now.item c.args.self.now.bytes.now (search rules))

pub returns-then-not-accepts : goal.returns-then-not-accepts
returns-then-not-accepts c =
    let p = c.requires in
    let x = c.args.self.now.item in
    let size = (found-size _ x c.args.self.now.served).0 in
    let tested = c.if-not-accepts.ensures ∙ ap (accepted_value x.code) c.first.ensures in
    sym (bytes-place x c.args.self.now.bytes.now p.0 p.1 p.2 p.3 size (search rules) ∙ rw (← tested))

pub returns : goal.returns
returns c =
    let p = c.requires in
    let x = c.args.self.now.item in
    let size = (found-size _ x c.args.self.now.served).0 in
    let tested = c.if-not-accepts.ensures ∙ ap (accepted_value x.code) c.first.ensures in
    c.end.ensures ∙ sym (bytes-place x c.args.self.now.bytes.now p.0 p.1 p.2 p.3 size (search rules) ∙ rw (← tested))
