-- `decode` refuses data that are not validated with the number of the validation.
use Rattle.std.proofs.Common.{sym}
use Rattle.std.proofs.lemmas.Result.{err_from_is_err_and}
use Rattle.refusal.specs.Numbers.{number_of}
use Rattle.freestar_packet.proofs.Frame.{framed_err}
use Rattle.freestar_decode.proofs.decode.Goals as goal

pub returns-in_err-validate : goal.returns-in_err-validate
returns-in_err-validate c =
    let exit = c.from_residual-in_err-validate in
    let p = err_from_is_err_and exit.result exit.ensures.1 in
    let v = rw c.content-content.ensures at c.in_err-validate.ensures in
    rw (p.1, p.2) (sym (framed_err c.args.block.now c.in_ok-message.message c.in_ok-message.ensures (number_of c.in_err-validate.field-0.0) v))
