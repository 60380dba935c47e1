-- One turn: what `replay_lines` answers of the characters that are there, and what it leaves of them.
-- Assumes nothing.
use Prim.Native.Nat.{ℕ, ◌+◌, ◌-◌, ◌≤◌}
use mathlib.Core.Path.{◌≡◌, refl, sym, ap, ◌∙◌}
use mathlib.Core.Bool.{Bool, true, false, not, ◌&&◌, ◌||◌, false≢true}
use mathlib.Core.Logic.{inl}
use mathlib.Core.List.{List}
use native.Mathlib.Nat.{sub-zero}
use native.Mathlib.Omega.{arith}
use borrow.Author.Tests.{ltb-false}
use lib.Dec.{ltb}
use lib.ListN.{length, take, drop, length-append, length-drop}
use lib.Seq.{take-add, drop_at, drop-drop, length-take-le}
use Rattle.logic.specs.Written.{written}
use Rattle.logic.proofs.Choice.{by_cases}
use Rattle.logic.proofs.Written.{written-front}
use Rattle.cdi_state.specs.declared.ModuleState.{ModuleState}
use Rattle.replay_text.specs.Replay.{lines_text}
use Rattle.replay_text.specs.Answered.{printed_max, unfinished, with_line_feeds, answered}
use Rattle.replay_text.specs.Session.{kept_of}
use Rattle.replay_text.proofs.Laws.{consumed_within, unfinished-left}
use Rattle.replay_lines.specs.declared.Progress.{Progress}
use Rattle.replay_lines.specs.Progress.{progress}
use Rattle.logic.specs.Lists.{between}
use Rattle.replay.specs.declared.Session.{Session}
use Rattle.replay.specs.Program.{buffer_size, Refilled, answers, left_after, is_full, Stays, Turned}
use Rattle.replay.specs.Ending.{Answered}

-- a part of a buffer without its first n elements
between-after : (l : List ℕ) (from end n : ℕ) → from + n ≤ end → end ≤ length l → between (from + n) end l ≡ drop n (between from end l)
between-after l from end n within inside =
    let k = end - (from + n) in
    let size = length-drop from l in
    let width : end - from ≡ n + k = omega arith in
    rw (width, take-add n k (drop from l))
    (rw (← drop-drop n from l) (sym (drop_at (take n (drop from l)) (take k (drop n (drop from l))) n (length-take-le n (drop from l) (omega arith)))))

-- what is known once the characters that a session has are answered: all that is consumed was there, the text lies in the output buffer
-- from its first byte on, and whether there is room for one more
pub record Learnt (session : Session) (input output : List ℕ) (r : Progress) : Type 0 where
  pub start-within : session.start + r.consumed ≤ session.end
  pub text-within : r.written ≤ length output
  pub lines : Answered session.state (between session.start session.end input) output r.state (between (session.start + r.consumed) session.end input) r.written

-- that is what the contract of `replay_lines` says, in an output buffer of the program's size
pub learnt : (session : Session) (input before after : List ℕ) (r : Progress)
    → (length input ≡ buffer_size) × (length before ≡ buffer_size) × (session.start ≤ session.end) × (session.end ≤ buffer_size)
    → length after ≡ length before
    → (r ≡ progress session.state (answered session.state (between session.start session.end input) (length before)))
    × (after ≡ written before (lines_text session.state (answered session.state (between session.start session.end input) (length before))))
    → Learnt session input after r
unfolding written
learnt session input before after r sizes same promised =
    let state = session.state in
    let from = session.start in
    let end = session.end in
    let chars = between from end input in
    let ls = answers state chars in
    let text = lines_text state ls in
    let lines-answered : answered state chars (length before) ≡ ls = ap (answered state chars) sizes.1 in
    let reported : r ≡ progress state ls = promised.0 ∙ ap (progress state) lines-answered in
    let placed : after ≡ written before text = promised.1 ∙ ap (λ (k : List (List ℕ)). written before (lines_text state k)) lines-answered in
    let consumed : r.consumed ≡ length (with_line_feeds ls) = ap (λ (p : Progress). p.consumed) reported in
    let count : r.written ≡ length text = ap (λ (p : Progress). p.written) reported in
    let inside : end ≤ length input = omega arith in
    let width = length-take-le (end - from) (drop from input) (omega (arith, length-drop from input)) in
    let within : from + r.consumed ≤ end = omega (arith, consumed_within state chars buffer_size) in
    record {
      start-within = within;
      text-within = omega (arith, ap length placed, length-append text (drop (length text) before));
      lines = record {
        text = ap (take (length text)) placed ∙ written-front before text;
        state-after = ap (λ (p : Progress). p.state) reported;
        left = between-after input from end r.consumed within inside ∙ ap (λ (n : ℕ). drop n chars) consumed;
        full = rw (same ∙ sizes.1, count);
      };
    }

-- so a turn that does not read, whatever came of the print
pub stays : {state after : ModuleState} {chars output rest : List ℕ} {written : ℕ} {ended endedAfter : Bool} → Answered state chars output after rest written
    → endedAfter ≡ ended → (done printed : Bool) → (not printed || ltb (length output - written) printed_max) || ended ≡ true
    → done ≡ printed && not (ltb (length output - written) printed_max) → Turned state chars ended output after rest endedAfter done printed 0 false
stays lines same done printed why is =
    record {
      text = lines.text;
      state-after = lines.state-after;
      left = inl (record { same = lines.left; same_end = same; why = rw (← lines.full) why; is_done = rw (← lines.full) is; not_failed = refl });
    }

-- what is read begins at the buffer's first place
pub refilled : (kept left buffer : List ℕ) (end count : ℕ) (failed : Bool) → left ≡ kept
    → Refilled (kept_of left) (take end buffer) count failed → Refilled (kept_of kept) (between 0 end buffer) count failed
refilled kept left buffer end count failed e h = rw (← e, sub-zero) h

-- where a line more would fit, only a line is left that is not finished
pub not_finished : (state : ModuleState) (chars : List ℕ) → is_full state chars ≡ false → left_after state chars ≡ unfinished chars
not_finished state chars e = unfinished-left state chars buffer_size (ltb-false (buffer_size - length (lines_text state (answers state chars))) printed_max e)

-- after the last turn nothing is left but that, and the input has ended
pub at_last : (state : ModuleState) (chars rest : List ℕ) (ended endedAfter : Bool) → Stays state chars ended rest endedAfter true true false
    → (ended ≡ true) × (left_after state chars ≡ unfinished chars)
at_last state chars rest ended endedAfter stays =
    by_cases (is_full state chars) (λ t. absurd (false≢true (rw t at (sym stays.is_done)))) (λ f. (rw f at stays.why, not_finished state chars f))
