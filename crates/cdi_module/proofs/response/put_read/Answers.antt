-- The kind is stored, the arguments are copied behind it, and the value behind these.
use Rattle.std.proofs.Common.{arith, length-append}
use Rattle.logic.proofs.Written.{writes_one}
use Rattle.byte_copy.proofs.Copied.{copied_behind}
use Rattle.cdi_module.proofs.response.put_read.Goals as goal

pub returns : goal.returns
returns c =
    let a = c.args in
    let size = length-append a.arguments.now a.value.now in
    let begun = copied_behind a.arguments.now (writes_one a.out.now a.kind (omega arith)) (omega (arith, size)) c.copy-start.ensures in
    copied_behind a.value.now begun (omega (arith, size)) c.copy.ensures
