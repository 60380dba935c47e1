-- The sequence theorem, from the model's laws and the module following the model; and what it rests on, of the module's own states.
-- Assumes nothing.
use mathlib.Core.Path.{◌≡◌, sym, ap, ◌∙◌, fun_ext}
use mathlib.Core.Bool.{false, cond}
use lib.Dec.{ltb}
use lib.ListN.{length}
use Rattle.logic.proofs.Choice.{by_cases}
use Rattle.sequence.specs.Model.{accepts}
use Rattle.sequence.proofs.Theorem.{sequence-claims}
use Rattle.refusal.specs.Refusal.{invalid, response_buffer_short}
use Rattle.cdi_command.specs.Payload.{response_buffer_min}
use Rattle.cdi_state.specs.declared.ModuleState.{ModuleState}
use Rattle.cdi_state.specs.State.{ArrayLengths}
use Rattle.cdi_valid.specs.Valid.{is_valid}
use Rattle.cdi_model.specs.Step.{Step, power_up, command, StepResult, powered_up, responded}
use Rattle.cdi_model.specs.Cells.{Cell}
use Rattle.cdi_model.specs.Table.{reads}
use Rattle.cdi_model.specs.Model.{model, is_valid as isValidCells}
use Rattle.cdi_model.proofs.Lawful.{lawful, refused-reads-none as cells-refused-read-none, validity_kept as cells-validity-kept}
use Rattle.cdi_module.specs.Module.{decide, step, result_of}
use Rattle.cdi_module.specs.Machine.{cells, machine}
use Rattle.cdi_module.specs.Theorem.{SequenceTheorem}
use Rattle.cdi_module.proofs.Validity.{validity_agrees}
use Rattle.cdi_module.proofs.Follows.{follows}

pub sequence_theorem : SequenceTheorem
sequence_theorem s h xs = sequence-claims model machine lawful follows s h xs

-- a step that is not accepted reads no cell either, whatever refuses it; that it stores in none and leaves the state is `Claims`' to say
pub refused-reads-none : (s : ModuleState) (x : Step) → accepts model (cells s) x ≡ false → (c : Cell) → reads (model.decide (cells s) x) c ≡ false
refused-reads-none s x e c = cells-refused-read-none (cells s) x e c

-- no step changes whether a state is valid
pub validity_kept : (s : ModuleState) (x : Step) → ArrayLengths s → is_valid (step s x) ≡ is_valid s
validity_kept s x h =
    validity_agrees (step s x) (follows.admissible_kept s x h)
    ∙ ap isValidCells (fun_ext (follows.cells_agree s x h))
    ∙ cells-validity-kept (cells s) x
    ∙ sym (validity_agrees s h)

-- on an invalid state every step is refused: a power-up with 2, a block with 1 or 2
abbrev refused_result : Step → StepResult
refused_result power_up = powered_up invalid
refused_result (command r) = responded (cond (ltb (length r.response) response_buffer_min) response_buffer_short invalid) 0 r.response

pub invalid-refused : (s : ModuleState) (x : Step) → is_valid s ≡ false → (step s x ≡ s) × (result_of s x ≡ refused_result x)
unfolding step result_of decide
invalid-refused s power_up e = (rw e, rw e)
invalid-refused s (command r) e =
    by_cases (ltb (length r.response) response_buffer_min) (λ t. (rw t, rw t)) (λ t. (rw (t, e), rw (t, e)))
