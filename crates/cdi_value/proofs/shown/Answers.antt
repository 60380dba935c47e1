-- The bytes before the first 00 and that one are shown, and all where there is none.
use Rattle.std.proofs.Common.{rules, add-one}
use Rattle.cdi_value.proofs.Values.{shown_to_zero, shown-whole}
use Rattle.cdi_value.proofs.shown.Goals as goal

pub returns-in-Some : goal.returns-in-Some
returns-in-Some c =
    let e = shown_to_zero c.args.name.now c.in-Some.last (search rules) (search rules) (search rules) in
    (rw add-one e, search rules)

pub returns-in-None : goal.returns-in-None
returns-in-None c = (shown-whole c.args.name.now (search rules), search rules)
