-- A run prints the text of its whole input: each turn prints the text of some lines, and the characters that it leaves and reads
-- continue to the text of the rest.
-- Assumes nothing.
use Prim.Native.Nat.{ℕ}
use mathlib.Core.Path.{◌≡◌, refl, sym, ap, ◌∙◌}
use mathlib.Core.Bool.{Bool, true, false, false≢true}
use mathlib.Core.Logic.{◌⊎◌, inl, inr}
use mathlib.Core.List.{List, [], ◌∷◌, ◌++◌, append-nil, append_assoc}
use native.Mathlib.Omega.{arith}
use borrow.Author.Tests.{lt-ltb}
use lib.ListN.{length, take}
use lib.Seq.{take_at}
use Rattle.logic.proofs.Choice.{by_cases}
use Rattle.cdi_state.specs.declared.ModuleState.{ModuleState}
use Rattle.cdi_state.specs.State.{factory_state}
use Rattle.replay_text.specs.Replay.{lines, lines_text, lines_state, replayed_from}
use Rattle.replay_text.specs.Answered.{has_line_feed, unfinished}
use Rattle.replay_text.specs.Session.{kept_max, kept_of, last_line, joined}
use Rattle.replay_text.specs.Theorem.{model_replayed}
use Rattle.replay_text.proofs.Lines.{unfinished-has-none, last-line-finished}
use Rattle.replay_text.proofs.Laws.{pieces, pieces_then, unfinished-kept, last_line_lem, none-taken, kept-enough}
use Rattle.replay_text.proofs.Theorem.{replay_theorem}
use Rattle.replay.specs.Program.{buffer_size, is_end, chars_after, answers, left_after, Stays, ReadsOn}
use Rattle.replay.proofs.Left.{not_finished, at_last}
use Rattle.replay.specs.Run.{Turns, start, then, chars_read, reads_of, text_of, used_up, Stops, stop, run_reads, run_text, last_text, RunTheorem}

-- where the input has ended, what is there are whole lines
abbrev Finished : Bool → List ℕ → Type 0
Finished ended chars = ended ≡ true → unfinished chars ≡ []

-- ---- one turn
-- the turn after which all is done
module _ (s : ModuleState) (chars rest : List ℕ) (ended endedAfter : Bool) (count : ℕ) where
  abbrev Done : Type 0
  Done = Stays s chars ended rest endedAfter true true false ⊎ ReadsOn s chars ended rest endedAfter true true count false

  -- the input has ended, and nothing is left
  done-left : Done → Finished ended chars → (endedAfter ≡ true) × (rest ≡ []) × (left_after s chars ≡ [])
  done-left (inr reads) finished = absurd (false≢true (sym reads.not_done))
  done-left (inl stays) finished =
      let at = at_last s chars rest ended endedAfter stays in
      let none = at.1 ∙ finished at.0 in
      (stays.same_end ∙ at.0, stays.same ∙ none, none)

  -- so it prints all that is there
  done-text : Done → Finished ended chars → lines_text s (answers s chars) ≡ replayed_from s (chars ++ [])
  unfolding lines lines_text
  done-text left finished = rw append-nil (sym ((pieces s chars buffer_size).0 ∙ rw (done-left left finished).2 (append-nil _)))

module _ (s after : ModuleState) (chars : List ℕ) (state-after : after ≡ lines_state s (answers s chars)) where
  -- what is left, and what follows it, continue to the text
  left-text : (later : List ℕ) → lines_text s (answers s chars) ++ replayed_from after (left_after s chars ++ later) ≡ replayed_from s (chars ++ later)
  left-text later = rw state-after (sym (pieces_then s chars buffer_size later).0)

  module _ (left : left_after s chars ≡ unfinished chars) where
    part_of-line : has_line_feed (left_after s chars) ≡ false
    part_of-line = rw left (unfinished-has-none chars)

    -- so does what is kept of a line that is not finished
    kept-text : (later : List ℕ) → lines_text s (answers s chars) ++ replayed_from after (kept_of (left_after s chars) ++ later) ≡ replayed_from s (chars ++ later)
    kept-text later =
        ap (λ (t : List ℕ). lines_text s (answers s chars) ++ t) (sym (kept-enough after (left_after s chars) later part_of-line).0) ∙ left-text later

    kept-part : has_line_feed (kept_of (left_after s chars)) ≡ false
    kept-part = none-taken kept_max (left_after s chars) part_of-line

    -- and so does the last line
    last-line-text : lines_text s (answers s chars) ++ replayed_from after (last_line (kept_of (left_after s chars)) ++ []) ≡ replayed_from s (chars ++ [])
    last-line-text = simp append-nil (rw (last_line_lem after (kept_of (left_after s chars)) kept-part).0 (simp append-nil at (kept-text [])))

-- at the end of the input a read gives nothing
none-given : (given : List ℕ) (count : ℕ) → length given ≡ count → is_end count false ≡ true → given ≡ []
none-given [] count e at = refl
none-given (c ∷ given) count e at = absurd (false≢true (rw (lt-ltb 0 count (omega (arith, e))) at at))

module _ (s : ModuleState) (chars rest : List ℕ) (ended endedAfter : Bool) (count : ℕ) where
  abbrev pub Left : Type 0
  Left = Stays s chars ended rest endedAfter false true false ⊎ ReadsOn s chars ended rest endedAfter false true count false

  -- where the input has ended no more is read
  none_read : (left : Left) (later : List ℕ) → (endedAfter ≡ true → later ≡ []) → ended ≡ true → chars_read left ++ later ≡ []
  none_read (inl stays) later none e = none (stays.same_end ∙ e)
  none_read (inr reads) later none e = absurd (false≢true (sym reads.not_ended ∙ e))

  module _ (after : ModuleState) (state-after : after ≡ lines_state s (answers s chars)) where
    -- the characters that are there after a turn that is not the last, once the input has ended, are whole lines too
    next-finished : Left → Finished ended chars → Finished endedAfter rest
    next-finished (inl stays) finished e =
        ap unfinished stays.same ∙ unfinished-kept s chars buffer_size ∙ finished (sym stays.same_end ∙ e)
    next-finished (inr reads) finished e =
        let kept = kept_of (left_after s chars) in
        let part = kept-part s after chars state-after (not_finished s chars reads.not_full) in
        let line : rest ≡ last_line kept = reads.refilled.taken ∙ ap (chars_after kept reads.refilled.given) (sym reads.end_known ∙ e) in
        ap unfinished line ∙ last-line-finished kept part

    -- what it prints and what is there after it continue to the text, with what it read and whatever is read later
    pub next-text : (left : Left) (later : List ℕ) → (endedAfter ≡ true → later ≡ [])
        → lines_text s (answers s chars) ++ replayed_from after (rest ++ later) ≡ replayed_from s (chars ++ (chars_read left ++ later))
    next-text (inl stays) later none = rw stays.same (left-text s after chars state-after later)
    next-text (inr reads) later none =
        let kept = kept_of (left_after s chars) in
        let given = reads.refilled.given in
        let part = not_finished s chars reads.not_full in
        let taken : rest ≡ chars_after kept given endedAfter = reads.refilled.taken ∙ ap (chars_after kept given) (sym reads.end_known) in
        by_cases endedAfter
        (λ t.
        let nothing : given ≡ [] = none-given given count reads.refilled.as_counted (sym reads.end_known ∙ t) in
        let line : rest ≡ last_line kept = taken ∙ rw t in
        rw (nothing, line, none t) (last-line-text s after chars state-after part))
        (λ f.
        let split : rest ≡ kept ++ given = taken ∙ rw f in
        rw (split, append_assoc kept given later) (kept-text s after chars state-after part (given ++ later)))

-- ---- the turns one after the other
turns_finished : {n : ℕ} {s : ModuleState} {chars : List ℕ} {ended : Bool} → Turns n s chars ended → Finished ended chars
unfolding unfinished
turns_finished start = λ e. refl
turns_finished (then turns turn) = next-finished _ _ _ _ _ _ _ turn.state-after turn.left (turns_finished turns)

-- one more part of the input
pub joined-one : (reads : List (List ℕ)) (more later : List ℕ) → joined (reads ++ more ∷ []) ++ later ≡ joined reads ++ (more ++ later)
unfolding joined
joined-one [] more later = rw append-nil
joined-one (read ∷ reads) more later = append_assoc read _ later ∙ ap (λ (l : List ℕ). read ++ l) (joined-one reads more later) ∙ sym (append_assoc read _ _)

turns_text : {n : ℕ} {s : ModuleState} {chars : List ℕ} {ended : Bool} (turns : Turns n s chars ended) (later : List ℕ) → (ended ≡ true → later ≡ [])
    → text_of turns ++ replayed_from s (chars ++ later) ≡ replayed_from factory_state (joined (reads_of turns) ++ later)
unfolding reads_of text_of joined
turns_text start later none = refl
turns_text (then turns turn) later none =
    append_assoc (text_of turns) _ _
    ∙ ap (λ (t : List ℕ). text_of turns ++ t) (next-text _ _ _ _ _ _ _ turn.state-after turn.left later none)
    ∙ turns_text turns (chars_read turn.left ++ later) (none_read _ _ _ _ _ _ turn.left later none)
    ∙ ap (replayed_from factory_state) (sym (joined-one (reads_of turns) _ later))

-- so what is left to be answered is all that the model's text has more
so_far : {n : ℕ} {s : ModuleState} {chars : List ℕ} {ended : Bool} (turns : Turns n s chars ended)
    → text_of turns ++ replayed_from s (chars ++ []) ≡ model_replayed (joined (reads_of turns))
so_far turns = turns_text turns [] (λ e. refl) ∙ rw append-nil (replay_theorem (joined (reads_of turns)))

whole-text : {output : List ℕ} {after : ModuleState} {rest : List ℕ} {endedAfter : Bool} {count : ℕ}
    (run : Stops output after rest endedAfter true true count false) → run_text run ≡ model_replayed (joined (run_reads run))
whole-text (stop turns turn last) =
    ap (λ (t : List ℕ). text_of turns ++ t) (done-text _ _ _ _ _ _ turn.left (turns_finished turns)) ∙ so_far turns

front-text : {n : ℕ} {s : ModuleState} {chars : List ℕ} {ended : Bool} (turns : Turns n s chars ended)
    → take (length (text_of turns)) (model_replayed (joined (reads_of turns))) ≡ text_of turns
front-text {s = s} {chars = chars} turns = rw (← so_far turns) (take_at (text_of turns) (replayed_from s (chars ++ [])) (length (text_of turns)) refl)

none_left : {output : List ℕ} {after : ModuleState} {rest : List ℕ} {endedAfter : Bool} {count : ℕ}
    → Stops output after rest endedAfter true true count false → (endedAfter ≡ true) × (rest ≡ [])
none_left (stop turns turn last) = let known = done-left _ _ _ _ _ _ turn.left (turns_finished turns) in (known.0, known.1)

all_made : {output : List ℕ} {after : ModuleState} {rest : List ℕ} {endedAfter : Bool} {count : ℕ}
    → Stops output after rest endedAfter false true count false → Turns 18446744073709551615 after rest endedAfter
all_made (stop turns turn used_up) = then turns turn

buffer-text : {output : List ℕ} {after : ModuleState} {rest : List ℕ} {endedAfter done printed failed : Bool} {count : ℕ}
    (run : Stops output after rest endedAfter done printed count failed) → take (length (last_text run)) output ≡ last_text run
buffer-text (stop turns turn last) = turn.text

pub run_theorem : RunTheorem
run_theorem = record { whole = whole-text; nothing_left = none_left; all_turns = all_made; front = front-text; in_buffer = buffer-text }
