-- The contract of `decide` determines its answer: no two answers have one decision.
-- Assumes nothing.
use Rattle.std.specs.Prelude.{◌≡◌}
use Rattle.std.specs.Prelude as std
use Rattle.refusal.specs.declared.Refusal.{Refusal}
use Rattle.refusal.specs.Refusal.{Result, accepted, refused}
use Rattle.refusal.specs.Numbers.{answer}
use Rattle.refusal.proofs.Determined.{answer_determined}
use Rattle.cdi_command.specs.declared.Command.{Command}
use Rattle.cdi_module.specs.Module.{decided}

one-decision : (r s : Result Command) → decided r ≡ decided s → r ≡ s
one-decision (accepted x) (accepted y) e = cc
one-decision (accepted x) (refused m) e = cc
one-decision (refused n) (accepted y) e = cc
one-decision (refused n) (refused m) e = cc

pub decided_determined : (a b : std.Result Command Refusal) → decided (answer a) ≡ decided (answer b) → a ≡ b
decided_determined a b e = answer_determined a b (one-decision (answer a) (answer b) e)
