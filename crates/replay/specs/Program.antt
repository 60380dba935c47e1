-- One turn of the program, which answers the lines that are there, prints the responses and reads on.
use Rattle.std.specs.Prelude.{ℕ, ◌-◌, ◌≡◌, Bool, true, false, not, ◌&&◌, ◌||◌, ◌⊎◌, List, ◌++◌, ltb, length, take, drop}
use Rattle.cdi_state.specs.declared.ModuleState.{ModuleState}
use Rattle.replay_text.specs.Replay.{lines_text, lines_state}
use Rattle.replay_text.specs.Answered.{printed_max, with_line_feeds, answered}
use Rattle.replay_text.specs.Session.{kept_of, last_line}

-- the size of the input buffer and of the output buffer
abbrev pub buffer_size : ℕ
buffer_size = 65536

-- a read returns how many characters it gave, and whether it failed; none and no failure is the end of the input
abbrev pub is_end : (count : ℕ) (failed : Bool) → Bool
is_end count failed = not (failed || ltb 0 count)

-- the characters that are there after a read: those kept, then those given; at the end of the input the last line gets the line feed that
-- it lacks
abbrev pub chars_after : (kept given : List ℕ) (ended : Bool) → List ℕ
chars_after kept given true = last_line kept
chars_after kept given false = kept ++ given

-- some characters are those that are there after a read that gave as many as it returned
pub record Refilled (kept chars : List ℕ) (count : ℕ) (failed : Bool) : Type 0 where
  pub given : List ℕ
  pub as_counted : length given ≡ count
  pub taken : chars ≡ chars_after kept given (is_end count failed)

-- the lines of some characters that one turn answers, and the characters after them
abbrev pub answers : ModuleState → List ℕ → List (List ℕ)
answers state chars = answered state chars buffer_size

abbrev pub left_after : ModuleState → List ℕ → List ℕ
left_after state chars = drop (length (with_line_feeds (answers state chars))) chars

-- whether one more line might not fit after their text
abbrev pub is_full : ModuleState → List ℕ → Bool
is_full state chars = ltb (buffer_size - length (lines_text state (answers state chars))) printed_max

-- A turn that does not read, because the text could not be printed, one more line might not fit, or the input has ended. What is not
-- answered stays. All is done if all fitted and is printed.
pub record Stays (state : ModuleState) (chars : List ℕ) (ended : Bool) (rest : List ℕ) (endedAfter done printed failed : Bool) : Type 0 where
  pub same : rest ≡ left_after state chars
  pub same_end : endedAfter ≡ ended
  pub why : (not printed || is_full state chars) || ended ≡ true
  pub is_done : done ≡ printed && not (is_full state chars)
  pub not_failed : failed ≡ false

-- A turn that reads: the text is printed, all fitted, and the input has not ended. What is read follows what is kept of the line that is
-- not finished.
pub record ReadsOn (state : ModuleState) (chars : List ℕ) (ended : Bool) (rest : List ℕ) (endedAfter done printed : Bool) (count : ℕ) (failed : Bool) : Type 0 where
  pub is_printed : printed ≡ true
  pub not_full : is_full state chars ≡ false
  pub not_ended : ended ≡ false
  pub refilled : Refilled (kept_of (left_after state chars)) rest count failed
  pub end_known : endedAfter ≡ is_end count failed
  pub not_done : done ≡ false

-- One turn: from a state, the characters that are not answered and whether the input has ended, to the same after it, by the results of its
-- print and its read. The text of the answered lines is at the front of the output buffer, which is what is printed.
pub record Turned (state : ModuleState) (chars : List ℕ) (ended : Bool) (output : List ℕ)
    (after : ModuleState) (rest : List ℕ) (endedAfter done printed : Bool) (count : ℕ) (failed : Bool) : Type 0 where
  pub text : take (length (lines_text state (answers state chars))) output ≡ lines_text state (answers state chars)
  pub state-after : after ≡ lines_state state (answers state chars)
  pub left : Stays state chars ended rest endedAfter done printed failed ⊎ ReadsOn state chars ended rest endedAfter done printed count failed
