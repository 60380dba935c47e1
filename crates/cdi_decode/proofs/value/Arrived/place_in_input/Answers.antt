-- The three tests, each about one byte more, find the first that is wrong.
use Rattle.std.proofs.Common.{sym, ◌∙◌}
use Rattle.cdi_decode.proofs.Rules.{wrong_channel, wrong_readings, wrong_reference, right-input}
use Rattle.cdi_decode.proofs.Shapes.{row-length}
use Rattle.cdi_decode.proofs.value.Arrived.place_in_input.Goals as goal

pub returns-then-not-accepts_input : goal.returns-then-not-accepts_input
returns-then-not-accepts_input c =
    sym (wrong_channel c.args.self.now.item c.requires (row-length c.args.self.now.item c.args.self.now.served (rw c.requires)) c.args.self.now.bytes.now (rw (← c.byte_or-channel.ensures) (sym c.if-not-accepts_input.ensures)))

pub returns-then-not-accepts_input-2 : goal.returns-then-not-accepts_input-2
returns-then-not-accepts_input-2 c =
    sym
    (wrong_readings c.args.self.now.item c.requires (row-length c.args.self.now.item c.args.self.now.served (rw c.requires)) c.args.self.now.bytes.now
    (rw (← c.byte_or-channel.ensures) (sym c.if-not-accepts_input.ensures))
    (rw (← c.byte_or-channel.ensures, ← c.byte_or-readings.ensures) (sym c.if-not-accepts_input-2.ensures)))

pub returns-then-not-accepts_input-3 : goal.returns-then-not-accepts_input-3
returns-then-not-accepts_input-3 c =
    sym
    (wrong_reference c.args.self.now.item c.requires (row-length c.args.self.now.item c.args.self.now.served (rw c.requires)) c.args.self.now.bytes.now
    (rw (← c.byte_or-channel.ensures) (sym c.if-not-accepts_input.ensures))
    (rw (← c.byte_or-channel.ensures, ← c.byte_or-readings.ensures) (sym c.if-not-accepts_input-2.ensures))
    (rw (← c.byte_or-channel.ensures, ← c.byte_or-readings.ensures, ← c.byte_or-reference.ensures) (sym c.if-not-accepts_input-3.ensures)))

pub returns : goal.returns
returns c =
    c.end.ensures ∙
    sym
    (right-input c.args.self.now.item c.requires (row-length c.args.self.now.item c.args.self.now.served (rw c.requires)) c.args.self.now.bytes.now
    (rw (← c.byte_or-channel.ensures) (sym c.if-not-accepts_input.ensures))
    (rw (← c.byte_or-channel.ensures, ← c.byte_or-readings.ensures) (sym c.if-not-accepts_input-2.ensures))
    (rw (← c.byte_or-channel.ensures, ← c.byte_or-readings.ensures, ← c.byte_or-reference.ensures) (sym c.if-not-accepts_input-3.ensures)))
