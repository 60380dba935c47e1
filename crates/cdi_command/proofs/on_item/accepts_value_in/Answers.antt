-- Of a value that is no row the first byte decides.
use Rattle.std.proofs.Common.{◌≡◌, false, ◌∙◌, rules}
use borrow.Author.Tests.{tests}
use lib.Dec.{eqb}
use Rattle.cdi_item.specs.Items.{analog_input, paired_module}
use Rattle.cdi_item.specs.Values.{value_bytes}
use Rattle.cdi_item.proofs.Values.{first-decides}
use Rattle.cdi_command.specs.Command.{value_of}
use Rattle.cdi_command.proofs.on_item.accepts_value_in.Goals as goal

pub returns-in_default : goal.returns-in_default
returns-in_default c =
    let item = c.args.item in
    let no_input : eqb item.code analog_input ≡ false = search (rules, tests) in
    let no_slot : eqb item.code paired_module ≡ false = search (rules, tests) in
    c.accepts-in_default.ensures ∙ first-decides item.code (value_bytes c.from.result) (value_bytes (value_of item c.args.payload.now)) no_input no_slot cc
