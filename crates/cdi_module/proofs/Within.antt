-- The length that an answer tells is at most that of the buffer afterwards, so a caller can take the response out of it.
-- Assumes nothing.
use Prim.Native.Nat.{ℕ, ◌≤◌}
use mathlib.Core.Path.{◌≡◌, sym, subst}
use mathlib.Core.List.{List}
use native.Mathlib.Omega.{arith}
use lib.Dec.{ltb}
use lib.ListN.{length, drop, length-append}
use Rattle.logic.specs.Written.{written}
use Rattle.logic.proofs.Choice.{choice}
use Rattle.refusal.specs.Refusal.{Result}
use Rattle.cdi_command.specs.declared.Command.{Command}
use Rattle.cdi_command.specs.Payload.{response_buffer_min}
use Rattle.cdi_state.specs.declared.ModuleState.{ModuleState}
use Rattle.cdi_model.specs.Step.{StepResult, powered_up, responded}
use Rattle.cdi_module.specs.Module.{Decision, refuse, execute, execute_power_up, decided, response_to, block_result, responded_to}

-- the length that a result tells is at most that of its buffer
abbrev Fits : StepResult → Type 0
Fits (powered_up n) = Unit {0}
Fits (responded n l response) = l ≤ length response

written-holds : (s p : List ℕ) → length p ≤ length (written s p)
unfolding written
written-holds s p = omega (arith, length-append p (drop (length p) s))

decided-fits : (s : ModuleState) (response : List ℕ) (d : Decision) → Fits (block_result s response d)
decided-fits s response (refuse n) = omega arith
decided-fits s response (execute c) = written-holds response (response_to s c)
decided-fits s response execute_power_up = omega arith

responded-fits : (s : ModuleState) (r : Result Command) (response : List ℕ) → Fits (responded_to s r response)
responded-fits s r response = choice Fits (ltb (length response) response_buffer_min) (λ short. omega arith) (λ room. decided-fits s response (decided r))

pub response-within : (s : ModuleState) (r : Result Command) (before after : List ℕ) (n l : ℕ)
    → responded n l after ≡ responded_to s r before → l ≤ length after
response-within s r before after n l e = subst Fits (sym e) (responded-fits s r before)
