-- The part that is filled is as long as there are wake bytes.
use Rattle.std.proofs.Common.{arith, rules}
use Rattle.cdi_host.proofs.Stores.{wakes-stored}
use Rattle.cdi_host.proofs.write_wakes.Goals as goal

pub returns : goal.returns
returns c = wakes-stored c.args.frame.now c.fill.new.self c.args.wake (omega arith) (c.fill.ensures.after (search rules))
