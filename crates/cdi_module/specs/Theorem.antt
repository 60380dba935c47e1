-- Document 01's demand 3, the sequence theorem, as a statement about the module.
use Rattle.std.specs.Prelude.{List}
use Rattle.sequence.specs.Machine.{Claims}
use Rattle.cdi_state.specs.declared.ModuleState.{ModuleState}
use Rattle.cdi_state.specs.State.{ArrayLengths}
use Rattle.cdi_model.specs.Step.{Step}
use Rattle.cdi_model.specs.Model.{model}
use Rattle.cdi_module.specs.Machine.{machine}

-- For every list of power-ups and command blocks, each block with a response buffer of its own, from every state: all that `Claims` says
-- of the machine beside the reference model. `ArrayLengths` asks for what a state in a program always has: `ModuleState::array_lengths`
-- of the crate cdi_state has it as its contract. The machine's step and result are the contracts of `execute` and `power_up`.
abbrev pub SequenceTheorem : Type 0
SequenceTheorem = (s : ModuleState) → ArrayLengths s → (xs : List Step) → Claims model machine s xs
