-- The first byte decides, by the rule of the flags.
use Rattle.std.proofs.Common.{rules, sym, ◌∙◌}
use Rattle.cdi_item.proofs.Consistent.{found-size}
use Rattle.cdi_decode.proofs.Rules.{empty-place, status-place}
use Rattle.cdi_decode.proofs.value.Arrived.place_in_status.Goals as goal

pub returns-then-is_empty : goal.returns-then-is_empty
returns-then-is_empty c = sym (empty-place c.args.self.now.item c.args.self.now.bytes.now (search rules))

pub returns-then-not-accepts_flags : goal.returns-then-not-accepts_flags
returns-then-not-accepts_flags c =
    let x = c.args.self.now.item in
    sym (status-place x c.requires (found-size _ x c.args.self.now.served).0 c.args.self.now.bytes.now (search rules) ∙ rw (← c.if-not-accepts_flags.ensures))

pub returns : goal.returns
returns c =
    let x = c.args.self.now.item in
    c.end.ensures ∙
    sym (status-place x c.requires (found-size _ x c.args.self.now.served).0 c.args.self.now.bytes.now (search rules) ∙ rw (← c.if-not-accepts_flags.ensures))
