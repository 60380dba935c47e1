-- `take` meets its contract: a message that is accepted is answered, and stored where the answer is written.
use Rattle.std.proofs.Common.{ℕ, List, length, sym, ap, ◌∙◌}
use Rattle.freestar_packet.specs.Layout.{requests, fits_in}
use Rattle.freestar_packet.specs.Read.{data_in}
use Rattle.freestar_packet.proofs.Frame.{data_size, data_handed}
use Rattle.freestar_settings.specs.Settings.{stored, answer, step, result_of}
use Rattle.freestar_settings.proofs.Accepted.{validated, set_anew}
use Rattle.freestar_settings.proofs.Settings.take.Goals as goal

pub respond-requires : goal.respond-requires
respond-requires c =
    let m = c.in_ok-message.message in
    let v = validated c.args.self.now c.args.block.now m (sym c.in_ok-message.ensures) in
    (ap (fits_in requests m.kind) (sym (data_size c.args.block.now m v.framed)) ∙ v.fitting, v.settings_hold)

pub store-requires : goal.store-requires
store-requires c =
    let m = c.in_ok-message.message in
    let v = validated c.args.self.now c.args.block.now m (sym c.in_ok-message.ensures) in
    ap (λ (l : List ℕ). fits_in requests m.kind (length l)) (c.content.ensures ∙ data_handed c.args.block.now m v.framed) ∙ v.fitting

pub returns : goal.returns
unfolding step result_of
returns c =
    let s = c.args.self.now in
    let block = c.args.block.now in
    let m = c.in_ok-message.message in
    let e = sym c.in_ok-message.ensures in
    let v = validated s block m e in
    rw e (
      c.store.ensures ∙ ap (stored s m.kind) (c.content.ensures ∙ data_handed block m v.framed) ∙
          sym (set_anew s (data_in block) m (length c.args.response.now) c.in_ok-length.length (answer s m.kind) c.in_ok-length.ensures.0),
      c.in_ok-length.ensures,
    )
