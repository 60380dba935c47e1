-- `count_targets` meets its contract: what is counted is what the chain gives.
use Rattle.std.proofs.Common.{rules, tests, ◌∙◌, arith}
use Rattle.std.proofs.lemmas.Iterator.{YieldsList-from_take}
use Rattle.std.proofs.lemmas.Iterator.Consumers.{count_from_yields_List, YieldsList-at}
use Rattle.std.proofs.lemmas.Iterator.Search.{YieldsList-from_take_while}
use Rattle.coyote_packet.proofs.Scanned.{is_group, counted, scan_gives}
use Rattle.coyote_packet.proofs.count_targets.Goals as goal

pub returns : goal.returns
returns c =
    count_from_yields_List c.take_while.result _ c.count.ensures.ran
    (YieldsList-from_take_while _ is_group
    (YieldsList-at c.take_while.ensures.source
    (YieldsList-from_take c.args.limit (YieldsList-at c.take-groups.ensures.source (scan_gives c.step_by.result c.args.bytes.now (omega arith) c.step_by.ensures.first_take (cc))) c.take-groups.ensures.count))
    c.take_while.ensures.closure c.take_while.ensures.done (λ x b q k. search (rules, tests))) ∙
    counted c.args.limit c.args.bytes.now
