-- Two bytes are stored, and the payload is copied behind them.
use Rattle.std.proofs.Common.{[], ◌∷◌, refl, arith}
use Rattle.logic.proofs.Written.{stores}
use Rattle.byte_copy.proofs.Copied.{copied_behind}
use Rattle.cdi_command.specs.Payload.{ack_response, no_error}
use Rattle.cdi_module.proofs.response.put_ack.Goals as goal

pub returns : goal.returns
returns c =
    let a = c.args in
    copied_behind a.payload.now {head = ack_response ∷ no_error ∷ []} (record { size = refl; over = stores a.out.now _ (omega arith) }) (omega arith) c.copy.ensures
