-- What was decided on a block, once it is stored and responded to, is the step.
-- Assumes nothing.
use Prim.Native.Nat.{ℕ}
use mathlib.Core.Path.{◌≡◌, refl, sym, ap, ◌∙◌}
use mathlib.Core.Bool.{false}
use mathlib.Core.List.{List}
use lib.Dec.{ltb}
use lib.ListN.{length}
use Rattle.logic.proofs.Choice.{by_cases}
use Rattle.refusal.specs.Refusal.{Result, accepted, refused}
use Rattle.cdi_command.specs.declared.Command.{Command}
use Rattle.cdi_command.specs.Payload.{response_buffer_min}
use Rattle.cdi_state.specs.declared.ModuleState.{ModuleState}
use Rattle.cdi_valid.specs.Valid.{is_valid}
use Rattle.cdi_store.specs.Store.{stores_for, state_for}
use Rattle.cdi_store.proofs.Kept.{nothing_stored}
use Rattle.cdi_model.specs.Step.{Request, request, command}
use Rattle.cdi_module.specs.Module.{decided, decide, decide_given, state_by, block_result, responded_to, step, result_of}

-- what is stored for a payload is what the decision on it stores
pub stored_by_lem : (s : ModuleState) (r : Result Command) → state_for s r ≡ state_by s (decided r)
stored_by_lem s (accepted c) = refl
stored_by_lem s (refused n) = refl

-- what stores nothing leaves the state
pub nothing_stored_for : (s : ModuleState) (r : Result Command) → stores_for r ≡ false → state_for s r ≡ s
nothing_stored_for s (accepted c) e = nothing_stored s c e
nothing_stored_for s (refused n) e = refl

module _ (s : ModuleState) (q : Request) (r : Result Command) (is : decided r ≡ decide s (command q)) where
  -- the state after it
  pub decided-step : state_for s r ≡ step s (command q)
  unfolding step
  decided-step = stored_by_lem s r ∙ ap (state_by s) is

  -- and its result
  pub decided-result : responded_to s r q.response ≡ result_of s (command q)
  unfolding result_of decide
  decided-result =
      by_cases (ltb (length q.response) response_buffer_min) (λ short. rw short refl) (λ room. rw room (rw room at (ap (block_result s q.response) is)))

-- the same by what `decide` promises, of a block and a response buffer
module _ (s : ModuleState) (block response : List ℕ) (r : Result Command) (is : decided r ≡ decide_given (is_valid s) (length response) block) where
  pub executed_state : state_for s r ≡ step s (command (request block response))
  unfolding decide
  executed_state = decided-step s (request block response) r is

  pub executed_result : responded_to s r response ≡ result_of s (command (request block response))
  unfolding decide
  executed_result = decided-result s (request block response) r is

  pub executed_kept : stores_for r ≡ false → s ≡ step s (command (request block response))
  executed_kept none = sym (nothing_stored_for s r none) ∙ executed_state
