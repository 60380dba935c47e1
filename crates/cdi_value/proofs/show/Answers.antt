-- A value that fits is copied whole.
use Rattle.std.proofs.Common.{rules}
use Rattle.byte_copy.proofs.Copied.{copied-whole}
use Rattle.cdi_value.proofs.show.Goals as goal

pub returns : goal.returns
returns c = copied-whole c.args.value.now c.args.out.now _ _ (search rules) c.copy.ensures
