-- Runs exist: if the text of all that is read leaves room in the output buffer, each turn answers all that is there and reads on.
-- Assumes nothing.
use Prim.Native.Nat.{ℕ, zero, suc, ◌+◌, ◌-◌, ◌≤◌}
use mathlib.Core.Path.{◌≡◌, refl, sym, ap, ◌∙◌}
use mathlib.Core.Bool.{Bool, true, false, and-eq-true_iff, false≢true}
use mathlib.Core.Logic.{inl, inr}
use mathlib.Core.List.{List, [], ◌∷◌, ◌++◌, append-nil, append_assoc}
use native.Mathlib.Omega.{arith}
use borrow.Author.Tests.{le-ltb}
use lib.Dec.{ltb}
use lib.ListN.{length, take, drop, length-append}
use lib.Seq.{take_all}
use Rattle.logic.specs.Lists.{all}
use Rattle.hex_text.specs.Hex.{pairs, hex_line}
use Rattle.response_text.specs.Text.{text_in_hex}
use Rattle.cdi_state.specs.declared.ModuleState.{ModuleState}
use Rattle.cdi_state.specs.State.{factory_state}
use Rattle.replay_text.specs.Replay.{lines, lines_text, lines_state, replayed_from}
use Rattle.replay_text.specs.Answered.{printed_max, whole_part, with_line_feeds, fitting}
use Rattle.replay_text.specs.Session.{kept_of, last_line, joined}
use Rattle.replay_text.specs.Theorem.{model_replayed}
use Rattle.replay_text.proofs.Laws.{pieces_then}
use Rattle.replay_text.proofs.Theorem.{replay_theorem}
use Rattle.replay_text.proofs.Examples.{example_by_model, shortest_inputs}
use Rattle.replay.specs.Program.{buffer_size, is_end, chars_after, answers, left_after, is_full, Turned}
use Rattle.replay.specs.Run.{Turns, start, then, reads_of, is_done, not_printed, read_failed, used_up, Stops, stop, run_reads}
use Rattle.replay.specs.Witness.{example_input, example_text, space_line, not_hex_line, Prints, prints, Witnesses}
use Rattle.replay.proofs.Runs.{next-text, joined-one, run_theorem}

-- a text is as long as its two parts
sizes : (a b c : List ℕ) → a ++ b ≡ c → length a + length b ≡ length c
sizes a b c e = sym (length-append a b) ∙ ap length e

-- if the text of what is there, and of whatever follows, is short, one more line fits
room-left : (s : ModuleState) (chars later : List ℕ) → length (replayed_from s (chars ++ later)) ≤ buffer_size - printed_max → is_full s chars ≡ false
room-left s chars later short =
    let text = lines_text s (answers s chars) in
    le-ltb (buffer_size - length text) printed_max (omega (arith, sizes text _ _ (sym (pieces_then s chars buffer_size later).0)))

front : (l : List ℕ) → take (length l) l ≡ l
front l = take_all (length l) l (omega arith)

-- a turn that reads on, and one after which all is done
module _ (s : ModuleState) (chars : List ℕ) (room : is_full s chars ≡ false) where
  abbrev after : ModuleState
  after = lines_state s (answers s chars)

  reads_on : (given : List ℕ) (ended : Bool) → is_end (length given) false ≡ ended
      → Turned s chars false (lines_text s (answers s chars)) after (chars_after (kept_of (left_after s chars)) given ended) ended false true (length given) false
  reads_on given ended e =
      record {
        text = front _;
        state-after = refl;
        left = inr (record {
          is_printed = refl;
          not_full = room;
          not_ended = refl;
          refilled = record { given = given; as_counted = refl; taken = ap (chars_after (kept_of (left_after s chars)) given) (sym e) };
          end_known = sym e;
          not_done = refl;
        });
      }

  ends-here : Turned s chars true (lines_text s (answers s chars)) after (left_after s chars) true true true 0 false
  ends-here =
      record {
        text = front _;
        state-after = refl;
        left = inl (record { same = refl; same_end = refl; why = rw room; is_done = rw room; not_failed = refl });
      }

-- there is a run that ends with all done and reads these parts
data GoesOn : List (List ℕ) → Type 0 where
  turn_goes_on : {output rest : List ℕ} {after : ModuleState} {endedAfter : Bool} {count : ℕ} {reads : List (List ℕ)}
      (run : Stops output after rest endedAfter true true count false) → run_reads run ≡ reads → GoesOn reads

run_on : {n : ℕ} {s : ModuleState} {chars : List ℕ} (turns : Turns n s chars false) (parts : List (List ℕ)) → all (λ part. ltb 0 (length part)) parts ≡ true
    → length (replayed_from s (chars ++ joined parts)) ≤ buffer_size - printed_max → GoesOn (reads_of turns ++ (parts ++ [] ∷ []))
unfolding reads_of joined reads_on
run_on {s = s} {chars = chars} turns [] some short =
    let turn = reads_on s chars (room-left s chars [] short) [] true refl in
    let line = last_line (kept_of (left_after s chars)) in
    let next = lines_state s (answers s chars) in
    let text = next-text s chars line false true 0 next refl turn.left [] (λ e. refl) in
    let room = room-left next line [] (omega (arith, sizes (lines_text s (answers s chars)) (replayed_from next (line ++ [])) (replayed_from s (chars ++ [])) text)) in
    turn_goes_on (stop (then turns turn) (ends-here next line room) is_done) refl
run_on {n = n} {s = s} {chars = chars} turns (part ∷ parts) some short =
    let each = (and-eq-true_iff (ltb 0 (length part)) (all (λ p. ltb 0 (length p)) parts)).0 some in
    let turn = reads_on s chars (room-left s chars (part ++ joined parts) short) part false (rw each.0) in
    let there = kept_of (left_after s chars) ++ part in
    let next = lines_state s (answers s chars) in
    let text = next-text s chars there false false (length part) next refl turn.left (joined parts) (λ e. absurd (false≢true e)) in
    let short-rest = sizes (lines_text s (answers s chars)) (replayed_from next (there ++ joined parts)) (replayed_from s (chars ++ (part ++ joined parts))) text in
    rw (append_assoc (reads_of turns) (part ∷ []) (parts ++ [] ∷ [])) at (run_on {n = suc n} (then turns turn) parts each.1 (omega arith))

-- ---- the runs
printed-text : (parts : List (List ℕ)) → GoesOn (parts ++ [] ∷ []) → Prints (parts ++ [] ∷ []) (model_replayed (joined parts))
printed-text parts (turn_goes_on run as_read) =
    let whole : joined (parts ++ [] ∷ []) ≡ joined parts = simp append-nil at (joined-one parts [] []) in
    prints run as_read (run_theorem.whole run ∙ ap (λ (l : List (List ℕ)). model_replayed (joined l)) as_read ∙ ap model_replayed whole)

short-runs : (parts : List (List ℕ)) → all (λ part. ltb 0 (length part)) parts ≡ true → length (model_replayed (joined parts)) ≤ buffer_size - printed_max
    → Prints (parts ++ [] ∷ []) (model_replayed (joined parts))
unfolding reads_of
short-runs parts some short = printed-text parts (run_on start parts some (rw (replay_theorem (joined parts)) short))

example_model : model_replayed example_input ≡ example_text
unfolding text_in_hex with_line_feeds
example_model = example_by_model

-- the example, in whatever parts it is read
example_runs : (parts : List (List ℕ)) → all (λ part. ltb 0 (length part)) parts ≡ true → joined parts ≡ example_input → Prints (parts ++ [] ∷ []) example_text
example_runs parts some whole =
    let text : model_replayed (joined parts) ≡ example_text = ap model_replayed whole ∙ example_model in
    rw text at (short-runs parts some (rw text (omega arith)))

same : {reads others : List (List ℕ)} {text other : List ℕ} → Prints reads text → Prints others other → joined reads ≡ joined others → text ≡ other
same (prints run reads text) (prints run' reads' text') e =
    sym text ∙ run_theorem.whole run ∙ ap model_replayed (ap joined reads ∙ e ∙ ap joined (sym reads')) ∙ sym (run_theorem.whole run') ∙ text'

-- ---- the other ends
nothing_there : is_full factory_state [] ≡ false
unfolding lines lines_text
nothing_there = room-left factory_state [] [] (omega arith)

space-room : is_full factory_state space_line ≡ false
space-room = room-left factory_state space_line [] (rw shortest_inputs.3 (omega arith))

-- a line of one space is read, and then another: the state stays, and nothing is left of the line before it
first-space : Turned factory_state [] false [] factory_state space_line false false true 2 false
unfolding lines whole_part fitting with_line_feeds lines_text lines_state
first-space = reads_on factory_state [] nothing_there space_line false refl

next-space : Turned factory_state space_line false not_hex_line factory_state space_line false false true 2 false
unfolding lines whole_part fitting with_line_feeds lines_text lines_state pairs hex_line
next-space = reads_on factory_state space_line space-room space_line false refl

space-lines : (n : ℕ) → Turns (suc n) factory_state space_line false
space-lines zero = then start first-space
space-lines (suc n) = then (space-lines n) next-space

unread : Turned factory_state [] false [] factory_state [] false false true 0 true
unfolding lines whole_part fitting with_line_feeds lines_text lines_state
unread =
    record {
      text = refl;
      state-after = refl;
      left = inr (record {
        is_printed = refl;
        not_full = nothing_there;
        not_ended = refl;
        refilled = record { given = []; as_counted = refl; taken = refl };
        end_known = refl;
        not_done = refl;
      });
    }

unprinted : Turned factory_state space_line false not_hex_line factory_state [] false false false 0 false
unfolding lines whole_part fitting with_line_feeds lines_text lines_state pairs hex_line
unprinted =
    record { text = refl; state-after = refl; left = inl (record { same = refl; same_end = refl; why = refl; is_done = refl; not_failed = refl }) }

pub witnesses : Witnesses
unfolding joined
witnesses =
    let none : model_replayed [] ≡ [] = sym (replay_theorem []) ∙ shortest_inputs.0 in
    record {
      short_logs = short-runs;
      empty = rw none at (short-runs [] refl (rw none (omega arith)));
      at_once = example_runs (example_input ∷ []) refl refl;
      in_two_parts = example_runs (take 20 example_input ∷ drop 20 example_input ∷ []) refl refl;
      same_text = same;
      read_fails = stop start unread read_failed;
      print_fails = stop (space-lines 0) unprinted not_printed;
      turns_used = stop (space-lines 18446744073709551613) next-space used_up;
    }
