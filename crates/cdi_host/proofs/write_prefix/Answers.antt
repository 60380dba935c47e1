-- The stores are those of the prefix, one after the other.
use Rattle.std.proofs.Common.{◌+◌, List, ℕ, ap, ◌∙◌, set}
use Rattle.cdi_frame.specs.Layout.{sync, length_base}
use Rattle.cdi_host.proofs.Stores.{prefix_stored}
use Rattle.cdi_host.proofs.write_prefix.Goals as goal

pub returns : goal.returns
returns c =
    let a = c.args in
    ap (λ (l : List ℕ). set (set l (a.wake + 1) sync) (a.wake + 2) (length_base + a.size)) c.write_wakes.ensures ∙
    prefix_stored a.frame.now a.wake a.size
