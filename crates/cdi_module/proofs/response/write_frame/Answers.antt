-- The payload is written from byte three on, and the three bytes before it are stored.
use Rattle.std.proofs.Common.{[], ◌∷◌, ◌+◌, length, arith}
use Rattle.logic.proofs.Written.{written-before}
use Rattle.cdi_frame.specs.Layout.{start, sync, length_base}
use Rattle.cdi_command.specs.Payload.{response_payload}
use Rattle.cdi_module.proofs.response.write_frame.Goals as goal

pub returns : goal.returns
returns c =
    let a = c.args in
    let p = response_payload a.payload.now a.value.now in
    let w = c.put_payload-length.ensures in
    record {
      size = omega (arith, w.size);
      over = rw w.size (written-before a.response.now (start ∷ sync ∷ (length_base + length p) ∷ []) p (omega arith) w.over);
    }
