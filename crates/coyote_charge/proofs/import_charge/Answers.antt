-- `import_charge` meets its contract: a refusal is handed on, and the type tells NoAckData from the other cases.
use Rattle.std.proofs.Common.{sym, ◌∙◌, rules}
use Rattle.coyote_charge.proofs.ByFields.{imports}
use Rattle.coyote_charge.proofs.import_charge.Goals as goal

pub read_charge-requires : goal.read_charge-requires
read_charge-requires c =
    let k = imports c.args.block.now (λ i. (c.type_inv.block i).fits) c.in_ok-fields.fields c.in_ok-fields.ensures in
    (k.taken (search rules) (search rules)).1

pub returns-in-16-to-31 : goal.returns-in-16-to-31
returns-in-16-to-31 c =
    let k = imports c.args.block.now (λ i. (c.type_inv.block i).fits) c.in_ok-fields.fields c.in_ok-fields.ensures in
    c.read_charge.ensures ∙ sym (k.taken (search rules) (search rules)).0

pub returns-in_default : goal.returns-in_default
returns-in_default c =
    let k = imports c.args.block.now (λ i. (c.type_inv.block i).fits) c.in_ok-fields.fields c.in_ok-fields.ensures in
    sym (k.too_low (search rules))

pub returns-in_default-2 : goal.returns-in_default-2
returns-in_default-2 c =
    let k = imports c.args.block.now (λ i. (c.type_inv.block i).fits) c.in_ok-fields.fields c.in_ok-fields.ensures in
    sym (k.too_high (search rules))
