-- A refusal may have any number: what the contracts of `store`, `stores` and `respond` say where a caller that tells refusals by number gives
-- the number 200, which is none of this repository's.
-- Assumes nothing.
use Rattle.std.specs.Prelude.{ℕ, ◌≡◌, ◌≤◌, Bool, false, List, length, Ok, Err, refl}
use Rattle.std.specs.Prelude as std
use borrow.Author.Tests.{le-ltb}
use Rattle.refusal.specs.Numbers.{answer_by}
use Rattle.cdi_command.specs.declared.Command.{Command}
use Rattle.cdi_command.specs.Payload.{response_buffer_min}
use Rattle.cdi_state.specs.declared.ModuleState.{ModuleState}
use Rattle.cdi_store.specs.Store.{stores_for, state_for}
use Rattle.cdi_module.specs.Module.{told_by, responded_to, length_responded}

-- such a caller's refusal is its number, as for a `u8`
abbrev itself : ℕ → ℕ
itself number = number

abbrev refused_by_caller : std.Result Command ℕ
refused_by_caller = Err 200

-- the state is left, ...
pub number_leaves_state : (s after : ModuleState) → after ≡ state_for s (answer_by itself refused_by_caller) → after ≡ s
number_leaves_state s after is = is

-- ... nothing is said to be stored, ...
pub number_stores_nothing : (said : Bool) → said ≡ stores_for (answer_by itself refused_by_caller) → said ≡ false
number_stores_nothing said is = is

-- ... and the number is passed on, with the buffer as it was
pub number_passed_on : (s : ModuleState) (before after : List ℕ) (r : std.Result ℕ ℕ) → response_buffer_min ≤ length before
    → told_by itself r after ≡ responded_to s (answer_by itself refused_by_caller) before → (r ≡ Err 200) × (after ≡ before)
number_passed_on s before after (Ok n) room is = let told = rw (le-ltb (length before) response_buffer_min room) at is in cc
number_passed_on s before after (Err n) room is = let told = rw (le-ltb (length before) response_buffer_min room) at is in (cc, cc)

-- a refusal with the number 0, which the result tells as it tells no refusal, is passed on too
pub zero_passed_on : (s : ModuleState) (before : List ℕ) (r : std.Result ℕ ℕ) → response_buffer_min ≤ length before
    → answer_by itself r ≡ length_responded s (answer_by itself (Err 0)) before → r ≡ Err 0
zero_passed_on s before (Ok n) room is = let said = rw (le-ltb (length before) response_buffer_min room) at is in cc
zero_passed_on s before (Err n) room is = let said = rw (le-ltb (length before) response_buffer_min room) at is in cc
