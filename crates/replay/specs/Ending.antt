-- What the program's values say of a turn and of the first session, in the words of `Turned` and `Stops`.
use Rattle.std.specs.Prelude.{ℕ, ◌-◌, ◌≡◌, Bool, true, false, List, Result, Ok, Err, ltb, length, take}
use Rattle.cdi_state.specs.declared.ModuleState.{ModuleState}
use Rattle.cdi_state.specs.State.{factory_state}
use Rattle.replay_text.specs.Replay.{lines_text, lines_state}
use Rattle.replay_text.specs.Answered.{printed_max}
use Rattle.replay.specs.Program.{answers, left_after, is_full}
use Rattle.replay.specs.declared.Session.{Session}
use Rattle.replay.specs.declared.Ending.{Ending}
use Rattle.replay.specs.declared.Ending.TheVariants.{Done, Full, Read}
use Rattle.replay.specs.declared.Failure.{Failure}
use Rattle.replay.specs.declared.Failure.TheVariants as failure

-- nothing is read yet
abbrev pub first_session : Session
first_session = record { state = factory_state; start = 0; end = 0; ended = false }

-- The lines of some characters are answered: the state after them, what is left, and their text at the front of the output buffer, with
-- how many bytes that is.
pub record Answered (state : ModuleState) (chars output : List ℕ) (after : ModuleState) (rest : List ℕ) (written : ℕ) : Type 0 where
  pub text : take (length (lines_text state (answers state chars))) output ≡ lines_text state (answers state chars)
  pub state-after : after ≡ lines_state state (answers state chars)
  pub left : rest ≡ left_after state chars
  pub full : ltb (length output - written) printed_max ≡ is_full state chars

-- whether all is done
abbrev pub done_of : Result Ending Failure → Bool
done_of (Ok Done) = true
done_of (Ok Full) = false
done_of (Ok (Read n)) = false
done_of (Err why) = false

-- whether the text was printed
abbrev pub printed_of : Result Ending Failure → Bool
printed_of (Ok ending) = true
printed_of (Err (failure.Print why)) = false
printed_of (Err (failure.Read why)) = true

-- the result of the read: how many bytes it gave, and whether it failed
abbrev pub count_of : Result Ending Failure → ℕ
count_of (Ok Done) = 0
count_of (Ok Full) = 0
count_of (Ok (Read n)) = n
count_of (Err why) = 0

abbrev pub failed_of : Result Ending Failure → Bool
failed_of (Ok ending) = false
failed_of (Err (failure.Print why)) = false
failed_of (Err (failure.Read why)) = true
