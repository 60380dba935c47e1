-- What is decided on the block is responded to and stored, and that is the step; where it stores nothing, the state is left.
use Rattle.std.proofs.Common.{sym, ◌∙◌}
use Rattle.cdi_module.proofs.Decided.{executed_state, executed_result, executed_kept}
use Rattle.cdi_module.proofs.execute.Goals as goal

pub returns-then-stores : goal.returns-then-stores
returns-then-stores c =
    let is = rw c.is_valid-valid.ensures at c.decide-decided.ensures in
    (c.store-state.ensures ∙ executed_state _ _ _ _ is, c.respond-outcome.ensures.0 ∙ executed_result _ _ _ _ is)

pub returns-else-stores : goal.returns-else-stores
returns-else-stores c =
    let is = rw c.is_valid-valid.ensures at c.decide-decided.ensures in
    (executed_kept _ _ _ _ is (sym c.stores.ensures ∙ c.if-stores.false), c.respond-outcome.ensures.0 ∙ executed_result _ _ _ _ is)
