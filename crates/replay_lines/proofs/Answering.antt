-- How the loop of `replay_lines` comes to the text of all lines that are answered: one line more, and the end.
-- Assumes nothing.
use Prim.Native.Nat.{ℕ, suc, ◌+◌, ◌-◌, ◌<◌, ◌≤◌}
use mathlib.Core.Path.{◌≡◌, refl, sym, ap, ◌∙◌}
use mathlib.Core.List.{List, [], ◌∷◌, ◌++◌, append-nil, append_assoc}
use native.Mathlib.Nat.{zero-add, sub-zero}
use native.Mathlib.Omega.{arith}
use borrow.Author.Tests.{le-leb, lt-leb}
use lib.ListN.{length, take, drop, length-append, length-drop, take-append-drop}
use lib.Seq.{take_all, take_at, drop_at, drop-drop, length-take-le}
use Rattle.logic.specs.Written.{written}
use Rattle.logic.proofs.Rest.{nothing_left}
use Rattle.hex_text.specs.Hex.{hex_line, line_feed, index_of}
use Rattle.response_text.specs.Text.{printed}
use Rattle.cdi_state.specs.declared.ModuleState.{ModuleState}
use Rattle.replay_text.specs.Replay.{lines, line_text, line_state, lines_text, lines_state}
use Rattle.replay_text.specs.Answered.{printed_max, whole_part, with_line_feeds, fitting, answered}
use Rattle.replay_text.proofs.Lines.{line-found, none_found, first-whole-line, no_whole_line}
use Rattle.replay_lines.specs.Progress.{Prints, progress}

-- ---- the buffer
-- what is left of a buffer has room for a line
pub room-left : (output : List ℕ) (used room : ℕ) → room ≤ length output - used → room ≤ length (take (length output - used) (drop used output))
room-left output used room h =
    let size = length-drop used output in
    rw (take_all (length output - used) (drop used output) (omega arith)) (omega arith)

-- a text written behind the first `used` bytes of a buffer: it stands behind them, and what stands behind it stays
module _ (output text after : List ℕ) (used : ℕ) (within : used ≤ length output)
    (placed : after ≡ written (take (length output - used) (drop used output)) text) where
  behind : take used output ++ (after ++ drop (length output - used) (drop used output)) ≡ (take used output ++ text) ++ drop (used + length text) output
  unfolding written
  behind =
      let size = length-drop used output in
      rw (
        placed,
        take_all (length output - used) (drop used output) (omega arith),
        nothing_left (drop used output) (length output - used) (omega arith),
        append-nil,
        drop-drop (length text) used output,
      )
      (sym (append_assoc (take used output) text (drop (used + length text) output)))

  front : length (take used output ++ text) ≡ used + length text
  front = rw (length-append, length-take-le used output within) refl

  pub text-behind : take (used + length text) (take used output ++ (after ++ drop (length output - used) (drop used output))) ≡ take used output ++ text
  text-behind = rw behind (take_at (take used output ++ text) (drop (used + length text) output) (used + length text) front)

  pub rest-behind : drop (used + length text) (take used output ++ (after ++ drop (length output - used) (drop used output))) ≡ drop (used + length text) output
  rest-behind = rw behind (drop_at (take used output ++ text) (drop (used + length text) output) (used + length text) front)

-- the buffer keeps its length
pub length-kept : (output after : List ℕ) (used : ℕ) → used ≤ length output → length after ≡ length (take (length output - used) (drop used output))
    → length (take used output ++ (after ++ drop (length output - used) (drop used output))) ≡ length output
length-kept output after used within same =
    let size = length-drop used output in
    let rest = nothing_left (drop used output) (length output - used) (omega arith) in
    let whole = take_all (length output - used) (drop used output) (omega arith) in
    rw (rest, append-nil) (omega (arith, length-append (take used output) after, length-take-le used output within, ap length whole))

-- ---- the lines
-- the lines that are still to be answered from a place of the input on
abbrev pub to_answer : ModuleState → List ℕ → ℕ → ℕ → List (List ℕ)
to_answer current input start room = fitting current room (lines (whole_part (drop start input)))

-- what the loop keeps: all that is answered is what it has answered so far, and what is still to be answered
pub record SoFar (s : ModuleState) (input before : List ℕ) (current : ModuleState) (start used : ℕ) (output : List ℕ) : Type 0 where
  pub room : used ≤ length before
  pub states : lines_state s (answered s input (length before)) ≡ lines_state current (to_answer current input start (length before - used))
  pub counted : length (with_line_feeds (answered s input (length before)))
      ≡ start + length (with_line_feeds (to_answer current input start (length before - used)))
  pub texts : lines_text s (answered s input (length before)) ≡ take used output ++ lines_text current (to_answer current input start (length before - used))
  pub rest : drop used output ≡ drop used before

pub at-start : (s : ModuleState) (input output : List ℕ) → SoFar s input output s 0 0 output
at-start s input output = record { room = omega arith; states = rw sub-zero; counted = rw (sub-zero, zero-add); texts = rw sub-zero; rest = refl }

-- the line that ends before `end`
abbrev line_at : List ℕ → ℕ → ℕ → List ℕ
line_at input start end = take (end - start) (drop start input)

-- where the next line feed is found
module _ (input : List ℕ) (start end : ℕ) (found : end ≡ start + index_of line_feed (drop start input)) where
  next-line : end < length input
      → lines (whole_part (drop start input)) ≡ line_at input start end ∷ lines (whole_part (drop (end + 1) input))
  next-line inside =
      let size = length-drop start input in
      let some = line-found (drop start input) (omega arith) in
      let width : index_of line_feed (drop start input) ≡ end - start = omega arith in
      let next : start + suc (index_of line_feed (drop start input)) ≡ end + 1 = omega arith in
      let behind : drop (suc (index_of line_feed (drop start input))) (drop start input) ≡ drop (end + 1) input =
      drop-drop (suc (index_of line_feed (drop start input))) start input ∙ ap (λ (k : ℕ). drop k input) next in
      rw (behind, width) at (first-whole-line (drop start input) some)

  none-whole : length input ≤ end → lines (whole_part (drop start input)) ≡ []
  none-whole outside =
      no_whole_line (drop start input) (none_found (drop start input) (omega (arith, length-drop start input)))

  -- one line more is answered
  module _ (s current next : ModuleState) (before output after : List ℕ) (used count : ℕ) (same : length output ≡ length before)
      (so_far : SoFar s input before current start used output) (inside : end < length input)
      (room : printed_max ≤ length output - used) (state : next ≡ line_state current (hex_line (line_at input start end)))
      (text : Prints (line_text current (hex_line (line_at input start end))) (take (length output - used) (drop used output)) after count) where
    one_more : to_answer current input start (length before - used) ≡ line_at input start end ∷ to_answer next input (end + 1) (length before - (used + count))
    unfolding fitting
    one_more =
        let left : length before - used - length (printed (line_text current (hex_line (line_at input start end)))) ≡ length before - (used + count) = omega (arith, text.counted) in
        simp (next-line inside, le-leb printed_max (length before - used) (omega arith), left, state)

    pub answered-line : SoFar s input before next (end + 1) (used + count)
        (take used output ++ (after ++ drop (length output - used) (drop used output)))
    unfolding lines_text lines_state with_line_feeds
    answered-line =
        let n = length (printed (line_text current (hex_line (line_at input start end)))) in
        let size : count ≡ n = text.counted in
        let within : used ≤ length output = omega (arith, so_far.room) in
        let rest = to_answer next input (end + 1) (length before - (used + count)) in
        let width = length-take-le (end - start) (drop start input) (omega (arith, length-drop start input)) in
        record {
          room = omega (arith, text.few, so_far.room);
          states = so_far.states ∙ rw (one_more, state) refl;
          counted = omega (arith, so_far.counted, ap (λ (ls : List (List ℕ)). length (with_line_feeds ls)) one_more, length-append (line_at input start end) (line_feed ∷ with_line_feeds rest));
          texts = so_far.texts ∙ rw (one_more, size, text-behind output _ after used within text.placed, state) (sym (append_assoc (take used output) _ _));
          rest = rw (size, rest-behind output _ after used within text.placed) (sym (drop-drop n used output) ∙ ap (drop n) so_far.rest ∙ drop-drop n used before);
        }

-- ---- the end
-- nothing is left to be answered where there is no room for any line, ...
pub no_room : (current : ModuleState) (input : List ℕ) (start room : ℕ) → room < printed_max → to_answer current input start room ≡ []
unfolding fitting
no_room current input start room short = none (lines (whole_part (drop start input)))
  where
    none : (ls : List (List ℕ)) → fitting current room ls ≡ []
    none [] = refl
    none (l ∷ ls) = simp (lt-leb printed_max room short)

-- ... and where no line feed is left
pub no_line : (current : ModuleState) (input : List ℕ) (start end room : ℕ) → end ≡ start + index_of line_feed (drop start input)
    → length input ≤ end → to_answer current input start room ≡ []
unfolding fitting
no_line current input start end room found outside = rw (none-whole input start end found outside)

-- where nothing is left to be answered, what is answered is all
module _ (s current : ModuleState) (input before output : List ℕ) (start used : ℕ) (same : length output ≡ length before)
    (so_far : SoFar s input before current start used output) (none : to_answer current input start (length before - used) ≡ []) where
  pub all-answered : (record { state = current; consumed = start; written = used } ≡ progress s (answered s input (length before)))
      × (output ≡ written before (lines_text s (answered s input (length before))))
  unfolding lines_text lines_state with_line_feeds written
  all-answered =
      let text : lines_text s (answered s input (length before)) ≡ take used output = so_far.texts ∙ rw none (append-nil (take used output)) in
      let size = length-take-le used output (omega (arith, so_far.room)) in
      let state : lines_state s (answered s input (length before)) ≡ current = so_far.states ∙ rw none refl in
      let count : length (with_line_feeds (answered s input (length before))) ≡ start = so_far.counted ∙ rw none (omega arith) in
      (rw (state, count, text, size) refl, rw (text, size, ← so_far.rest) (sym (take-append-drop used output)))
