-- `read_addressed` meets its contract: the parts that it takes are those of the packet.
use Rattle.std.proofs.Common.{sym, ◌∙◌, ap, rules}
use Rattle.refusal.specs.Refusal.{accepted}
use Rattle.coyote_decode.proofs.Found.{found}
use Rattle.coyote_decode.proofs.read_addressed.Goals as goal

pub returns : goal.returns
returns c =
    let a = c.args in
    let after = c.in-Some-eq128.field-0.now in
    let n = c.count_targets-count.result in
    ap accepted c.addressed_case.ensures ∙
    sym (found a.kind a.payload.now after n _ _ c.count_targets-count.ensures (search rules) (search rules) (search rules) (search rules) (search rules) (search rules) (search rules) (search rules))
