-- A whole run of the program: the turns that the loop in `replay` makes, why it ends, and what is printed by then. The contract of
-- `replay` says that the session that it leaves, and both buffers, are those after such turns.
--
-- No contract can say what a call of the system reads or writes, so the following is outside the proof and is tested instead:
-- - `turn` writes the front of the output buffer to standard output, once and before more is read, and `printed` is whether that went well;
-- - `read_input` reads standard input, and the characters given are those read; its result is `count`, or `failed` where it is an error;
-- - `main` calls `replay` once, and `report` writes the reason to standard error if not all is done;
-- - what the standard library, the C library and the system do in these calls.
-- So a program that made up what it reads would meet these contracts; the tests rule that out.
use Rattle.std.specs.Prelude.{ℕ, suc, ◌≡◌, Bool, true, false, ◌⊎◌, List, [], ◌∷◌, ◌++◌, length, take}
use Rattle.std.proofs.Common.{inl, inr}
use Rattle.cdi_state.specs.declared.ModuleState.{ModuleState}
use Rattle.cdi_state.specs.State.{factory_state}
use Rattle.replay_text.specs.Replay.{lines_text}
use Rattle.replay_text.specs.Session.{joined}
use Rattle.replay_text.specs.Theorem.{model_replayed}
use Rattle.replay.specs.Program.{answers, Stays, ReadsOn, Turned}

-- ---- the turns
-- A number of turns, one after the other, from the factory state with nothing read, to a state, the characters that are not answered, and
-- whether the input has ended. No print and no read failed, and after none of them all was done.
pub data Turns : ℕ → ModuleState → List ℕ → Bool → Type 0 where
  start : Turns 0 factory_state [] false
  then : {n : ℕ} {state after : ModuleState} {chars output rest : List ℕ} {ended endedAfter : Bool} {count : ℕ}
      → Turns n state chars ended
      → Turned state chars ended output after rest endedAfter false true count false
      → Turns (suc n) after rest endedAfter

-- the characters that a turn read
abbrev pub chars_read : {state : ModuleState} {chars rest : List ℕ} {ended endedAfter done printed failed : Bool} {count : ℕ}
    → Stays state chars ended rest endedAfter done printed failed ⊎ ReadsOn state chars ended rest endedAfter done printed count failed → List ℕ
chars_read (inl stays) = []
chars_read (inr reads) = reads.refilled.given

-- what some turns read, one part of the input for each turn, and all that they print
unfoldable pub reads_of : {n : ℕ} {state : ModuleState} {chars : List ℕ} {ended : Bool} → Turns n state chars ended → List (List ℕ)
reads_of start = []
reads_of (then turns turn) = reads_of turns ++ chars_read turn.left ∷ []

unfoldable pub text_of : {n : ℕ} {state : ModuleState} {chars : List ℕ} {ended : Bool} → Turns n state chars ended → List ℕ
text_of start = []
text_of (then {state = state} {chars = chars} turns turn) = text_of turns ++ lines_text state (answers state chars)

-- ---- why the loop ends
-- the most turns that the loop makes: the largest u64
abbrev pub turns_max : ℕ
turns_max = 18446744073709551615

-- The four reasons why a turn is the last, by the number of turns so far and by what the turn returns: all is done, the text could not be
-- printed, the read failed, or the turns are used up.
pub data Last : (n : ℕ) (done printed failed : Bool) → Type 0 where
  is_done : {n : ℕ} → Last n true true false
  not_printed : {n : ℕ} → Last n false false false
  read_failed : {n : ℕ} → Last n false true true
  used_up : Last turns_max false true false

-- some turns and the last one, with the output buffer, the session and the characters that it leaves
pub data Stops : (output : List ℕ) (after : ModuleState) (rest : List ℕ) (endedAfter done printed : Bool) (count : ℕ) (failed : Bool) → Type 0 where
  stop : {n : ℕ} {state after : ModuleState} {chars output rest : List ℕ} {ended endedAfter done printed failed : Bool} {count : ℕ}
      → Turns n state chars ended
      → Turned state chars ended output after rest endedAfter done printed count failed
      → Last (suc n) done printed failed
      → Stops output after rest endedAfter done printed count failed

-- ---- what is printed
module _ {output : List ℕ} {after : ModuleState} {rest : List ℕ} {endedAfter : Bool} {count : ℕ} where
  -- if all is done: what the turns read, and all that they print; the last one reads nothing
  abbrev pub run_reads : Stops output after rest endedAfter true true count false → List (List ℕ)
  run_reads (stop turns turn last) = reads_of turns

  abbrev pub run_text : Stops output after rest endedAfter true true count false → List ℕ
  run_text (stop {state = state} {chars = chars} turns turn last) = text_of turns ++ lines_text state (answers state chars)

-- the text that the last turn has for its lines, whatever the reason why it is the last
abbrev pub last_text : {output : List ℕ} {after : ModuleState} {rest : List ℕ} {endedAfter done printed failed : Bool} {count : ℕ}
    → Stops output after rest endedAfter done printed count failed → List ℕ
last_text (stop {state = state} {chars = chars} turns turn last) = lines_text state (answers state chars)

pub record RunTheorem : Type 0 where
  -- if all is done, what is printed is the reference model's text for all that is read
  pub whole : {output : List ℕ} {after : ModuleState} {rest : List ℕ} {endedAfter : Bool} {count : ℕ}
      (run : Stops output after rest endedAfter true true count false) → run_text run ≡ model_replayed (joined (run_reads run))
  -- and the input has ended, and nothing is left to be answered
  pub nothing_left : {output : List ℕ} {after : ModuleState} {rest : List ℕ} {endedAfter : Bool} {count : ℕ}
      → Stops output after rest endedAfter true true count false → (endedAfter ≡ true) × (rest ≡ [])
  -- if not all is done, and no print and no read failed, this many turns were made
  pub all_turns : {output : List ℕ} {after : ModuleState} {rest : List ℕ} {endedAfter : Bool} {count : ℕ}
      → Stops output after rest endedAfter false true count false → Turns 18446744073709551615 after rest endedAfter
  -- at any time, what is printed is the front of the model's text for what is read
  pub front : {n : ℕ} {state : ModuleState} {chars : List ℕ} {ended : Bool} (turns : Turns n state chars ended)
      → take (length (text_of turns)) (model_replayed (joined (reads_of turns))) ≡ text_of turns
  -- and the text of the last turn is at the front of the output buffer, which is where `turn` prints it from
  pub in_buffer : {output : List ℕ} {after : ModuleState} {rest : List ℕ} {endedAfter done printed failed : Bool} {count : ℕ}
      (run : Stops output after rest endedAfter done printed count failed) → take (length (last_text run)) output ≡ last_text run
