-- What holds of the lines that are answered: they continue to the whole text, there are some where there can be, and where room is
-- left only an unfinished line is.
-- Assumes nothing.
use Prim.Native.Nat.{ℕ, zero, suc, ◌+◌, ◌-◌, ◌<◌, ◌≤◌}
use mathlib.Core.Path.{◌≡◌, refl, sym, ap, ◌∙◌}
use mathlib.Core.Bool.{true, false, false≢true}
use mathlib.Core.List.{List, [], ◌∷◌, ◌++◌, append-nil, append_assoc}
use native.Mathlib.Omega.{arith}
use borrow.Author.Tests.{eqb-true, le-leb, leb-true, leb-false}
use lib.Dec.{eqb, leb}
use lib.ListN.{length, take, drop, length-append}
use lib.Seq.{take_all, drop-append_seam, drop-drop, length-take-le}
use Rattle.logic.proofs.Choice.{by_cases}
use Rattle.hex_text.specs.Hex.{hex_line, line_feed, line_max, index_of}
use Rattle.hex_text.proofs.Lines.{too_long}
use Rattle.response_text.specs.Text.{printed}
use Rattle.cdi_state.specs.declared.ModuleState.{ModuleState}
use Rattle.replay_text.specs.Replay.{longer, lines, line_text, line_state, lines_text, lines_state, replayed_from, state_at_end}
use Rattle.replay_text.specs.Answered.{printed_max, has_line_feed, whole_part, unfinished, with_line_feeds, fitting, answered}
use Rattle.replay_text.specs.Session.{kept_max, kept_of, last_line}
use Rattle.replay_text.proofs.Lines.{inside, first-line, first-whole-line, no_whole_line, whole_and_unfinished, unfinished-behind, lengthened, part_lengthens, lengthened-first, lengthened-alone, last-line_feed}

-- ---- pieces
-- with some lines at the input's front answered, the rest of the input continues to the same text, the same state and the same
-- unfinished line, whatever follows the input
abbrev Continues : ModuleState → List ℕ → List ℕ → List (List ℕ) → Type 0
Continues s input later ls =
    (replayed_from s (input ++ later) ≡ lines_text s ls ++ replayed_from (lines_state s ls) (drop (length (with_line_feeds ls)) input ++ later))
    × (state_at_end s (input ++ later) ≡ state_at_end (lines_state s ls) (drop (length (with_line_feeds ls)) input ++ later))
    × (unfinished (drop (length (with_line_feeds ls)) input) ≡ unfinished input)

continues : (xs : List (List ℕ)) (s : ModuleState) (input later : List ℕ) (room : ℕ) → lines (whole_part input) ≡ xs → Continues s input later (fitting s room xs)
unfolding fitting lines_text lines_state with_line_feeds
continues [] s input later room e = (refl, refl, refl)
continues (l ∷ ls) s input later room e =
    by_cases (leb printed_max room)
    (λ fits.
    by_cases (has_line_feed input)
    (λ some.
    let i = index_of line_feed input in
    let next = drop (suc i) input in
    let after = line_state s (hex_line l) in
    let left = room - length (printed (line_text s (hex_line l))) in
    let whole = first-whole-line input some in
    let same : l ≡ take i input = cc in
    let more : lines (whole_part next) ≡ ls = cc in
    let rest = fitting after left ls in
    let first : lines (input ++ later) ≡ l ∷ lines (next ++ later) =
    first-line input later some ∙ ap (λ (k : List ℕ). k ∷ lines (next ++ later)) (sym same) in
    let size : length l ≡ i = ap length same ∙ length-take-le i input (omega (arith, inside input some)) in
    let width : length (l ++ line_feed ∷ with_line_feeds rest) ≡ suc i + length (with_line_feeds rest) =
    omega (arith, length-append l (line_feed ∷ with_line_feeds rest)) in
    let behind : drop (length (l ++ line_feed ∷ with_line_feeds rest)) input ≡ drop (length (with_line_feeds rest)) next =
    ap (λ (k : ℕ). drop k input) width ∙ sym (drop-drop (length (with_line_feeds rest)) (suc i) input) in
    let then = continues ls after next later left more in
    let text = printed (line_text s (hex_line l)) in
    simp fits
    (rw (first, behind) (ap (λ (t : List ℕ). text ++ t) then.0 ∙ sym (append_assoc text _ _), then.1, then.2 ∙ unfinished-behind input some)))
    (λ none. let never = no_whole_line input none in absurd (let no : ◌≡◌ {A = ℕ} 0 1 = cc in omega arith)))
    (λ short. simp short (refl, refl, refl))

module _ (s : ModuleState) (input : List ℕ) (room : ℕ) where
  -- whatever the room and whatever follows, what is printed now and what is printed later for the input behind it is the text of the
  -- whole input, and the state at its end is the same: nothing is lost
  pub pieces_then : (later : List ℕ) →
      let ls = answered s input room in
      (replayed_from s (input ++ later) ≡ lines_text s ls ++ replayed_from (lines_state s ls) (drop (length (with_line_feeds ls)) input ++ later))
      × (state_at_end s (input ++ later) ≡ state_at_end (lines_state s ls) (drop (length (with_line_feeds ls)) input ++ later))
  pieces_then later = let c = continues (lines (whole_part input)) s input later room refl in (c.0, c.1)

  -- so of the input alone
  pub pieces :
      let ls = answered s input room in
      (replayed_from s input ≡ lines_text s ls ++ replayed_from (lines_state s ls) (drop (length (with_line_feeds ls)) input))
      × (state_at_end s input ≡ state_at_end (lines_state s ls) (drop (length (with_line_feeds ls)) input))
  pieces = simp append-nil at (pieces_then [])

  -- the line that is left unfinished stays so
  pub unfinished-kept : unfinished (drop (length (with_line_feeds (answered s input room))) input) ≡ unfinished input
  unfinished-kept = (continues (lines (whole_part input)) s input [] room refl).2

-- ---- progress
line-has-some : (l : List ℕ) (ls : List (List ℕ)) → 0 < length (with_line_feeds (l ∷ ls))
unfolding with_line_feeds
line-has-some l ls = omega (arith, length-append l (line_feed ∷ with_line_feeds ls))

-- where there is room for any line and a line is whole, something is consumed
pub some_consumed : (s : ModuleState) (input : List ℕ) (room : ℕ) → printed_max ≤ room → has_line_feed input ≡ true
    → 0 < length (with_line_feeds (answered s input room))
unfolding fitting
some_consumed s input room fits some = rw (first-whole-line input some) (simp (le-leb printed_max room fits) (line-has-some _ _))

-- whole lines are all of their part of an input
whole_again : (chars : List ℕ) → with_line_feeds (lines (whole_part chars)) ≡ whole_part chars
unfolding lines whole_part with_line_feeds
whole_again [] = refl
whole_again (c ∷ chars) =
    by_cases (eqb c line_feed) (λ t. rw (eqb-true c line_feed t) (ap (λ (l : List ℕ). line_feed ∷ l) (whole_again chars)))
    (λ f.
    by_cases (has_line_feed chars)
    (λ t.
    let first = first-whole-line chars t in
    simp (f, t)
    (ap (λ (ls : List (List ℕ)). with_line_feeds (longer c ls)) first
    ∙ sym (ap (λ (ls : List (List ℕ)). c ∷ with_line_feeds ls) first)
    ∙ ap (λ (l : List ℕ). c ∷ l) (whole_again chars)))
    (λ g. simp (f, g)))

-- where there is still room behind the text, every line was answered
all_fit : (s : ModuleState) (room : ℕ) (ls : List (List ℕ)) → printed_max ≤ room - length (lines_text s (fitting s room ls)) → fitting s room ls ≡ ls
unfolding fitting lines_text
all_fit s room [] left = refl
all_fit s room (l ∷ ls) left =
    by_cases (leb printed_max room)
    (λ t.
    let n = length (printed (line_text s (hex_line l))) in
    let after = line_state s (hex_line l) in
    let rest = lines_text after (fitting after (room - n) ls) in
    let behind : printed_max ≤ room - length (printed (line_text s (hex_line l)) ++ rest) = simp t at left in
    simp t
    (ap (λ (k : List (List ℕ)). l ∷ k)
    (all_fit after (room - n) ls (omega (arith, length-append (printed (line_text s (hex_line l))) rest)))))
    (λ f. let short = leb-false printed_max room f in absurd (omega (arith, simp f at left)))

-- where there is still room behind the text, only a line that is not finished is left
pub unfinished-left : (s : ModuleState) (input : List ℕ) (room : ℕ) → printed_max ≤ room - length (lines_text s (answered s input room))
    → drop (length (with_line_feeds (answered s input room))) input ≡ unfinished input
unfinished-left s input room left =
    rw (all_fit s room (lines (whole_part input)) left, whole_again input)
    (ap (drop (length (whole_part input))) (sym (whole_and_unfinished input)) ∙ drop-append_seam (whole_part input) (unfinished input))

-- ---- the last line
-- a line that the input ends in prints the same with the line feed that it lacks
pub last_line_lem : (s : ModuleState) (line : List ℕ) → has_line_feed line ≡ false
    → (replayed_from s (last_line line) ≡ replayed_from s line) × (state_at_end s (last_line line) ≡ state_at_end s line)
last_line_lem s line none = rw (last-line_feed line none) (refl, refl)

-- ---- a line whose end is still to be read
-- two first lines that are too long print and do the same
same_when_long : (s : ModuleState) (a b : List ℕ) (rest : List (List ℕ)) → line_max < length a → line_max < length b
    → (lines_text s (a ∷ rest) ≡ lines_text s (b ∷ rest)) × (lines_state s (a ∷ rest) ≡ lines_state s (b ∷ rest))
unfolding lines_text lines_state
same_when_long s a b rest long-a long-b = rw (too_long a long-a, too_long b long-b) (refl, refl)

lengthened-long : (s : ModuleState) (a b : List ℕ) (ls : List (List ℕ)) → line_max < length a → line_max < length b
    → (lines_text s (lengthened a ls) ≡ lines_text s (lengthened b ls)) × (lines_state s (lengthened a ls) ≡ lines_state s (lengthened b ls))
lengthened-long s [] b ls long-a long-b = absurd (omega arith)
lengthened-long s (c ∷ a) [] ls long-a long-b = absurd (omega arith)
lengthened-long s (c ∷ a) (d ∷ b) [] long-a long-b =
    rw (lengthened-alone c a, lengthened-alone d b) (same_when_long s (c ∷ a) (d ∷ b) [] long-a long-b)
lengthened-long s (c ∷ a) (d ∷ b) (l ∷ ls) long-a long-b =
    rw (lengthened-first c a l ls, lengthened-first d b l ls)
    (same_when_long s (c ∷ a ++ l) (d ∷ b ++ l) ls (omega (arith, length-append a l)) (omega (arith, length-append b l)))

pub none-taken : (k : ℕ) (part : List ℕ) → has_line_feed part ≡ false → has_line_feed (take k part) ≡ false
none-taken zero part none = refl
none-taken (suc k) [] none = refl
none-taken (suc k) (c ∷ part) none =
    by_cases (eqb c line_feed) (λ t. absurd (false≢true (sym none ∙ simp t))) (λ f. simp f (none-taken k part (simp f at none)))

-- what is kept of a part of a line is enough: whatever follows, it prints and does the same
pub kept-enough : (s : ModuleState) (part more : List ℕ) → has_line_feed part ≡ false
    → (replayed_from s (part ++ more) ≡ replayed_from s (kept_of part ++ more)) × (state_at_end s (part ++ more) ≡ state_at_end s (kept_of part ++ more))
kept-enough s part more none =
    by_cases (leb (length part) kept_max) (λ t. rw (take_all kept_max part (leb-true (length part) kept_max t)) (refl, refl))
    (λ f.
    let over = leb-false (length part) kept_max f in
    let size = length-take-le kept_max part (omega arith) in
    rw (part_lengthens part more none, part_lengthens (kept_of part) more (none-taken kept_max part none))
    (lengthened-long s part (kept_of part) (lines more) (omega arith) (omega arith)))

-- ---- bounds
fitting-within : (s : ModuleState) (room : ℕ) (ls : List (List ℕ)) → length (with_line_feeds (fitting s room ls)) ≤ length (with_line_feeds ls)
unfolding fitting with_line_feeds
fitting-within s room [] = omega arith
fitting-within s room (l ∷ ls) =
    by_cases (leb printed_max room)
    (λ t.
    let after = line_state s (hex_line l) in
    let rest = fitting after (room - length (printed (line_text s (hex_line l)))) ls in
    let within : length (with_line_feeds rest) ≤ length (with_line_feeds ls) = fitting-within after (room - length (printed (line_text s (hex_line l)))) ls in
    simp t (omega (arith, length-append l (line_feed ∷ with_line_feeds rest), length-append l (line_feed ∷ with_line_feeds ls))))
    (λ f. simp f (omega arith))

-- no more is consumed than there is
pub consumed_within : (s : ModuleState) (input : List ℕ) (room : ℕ) → length (with_line_feeds (answered s input room)) ≤ length input
consumed_within s input room =
    let whole = fitting-within s room (lines (whole_part input)) in
    omega (arith, ap length (whole_again input), ap length (whole_and_unfinished input), length-append (whole_part input) (unfinished input))
