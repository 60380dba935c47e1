-- The lines of an input: the first of them, and how the whole lines and the one left unfinished behind them make it up.
-- Assumes nothing.
use Prim.Native.Nat.{ℕ, suc, ◌<◌, ◌≤◌}
use mathlib.Core.Path.{◌≡◌, refl, sym, ap, ◌∙◌}
use mathlib.Core.Bool.{true, false, false≢true}
use mathlib.Core.List.{List, [], ◌∷◌, ◌++◌, append-nil}
use native.Mathlib.Omega.{arith}
use lib.Dec.{eqb}
use lib.ListN.{length, take, drop}
use Rattle.logic.proofs.Choice.{by_cases}
use Rattle.hex_text.specs.Hex.{line_feed, index_of}
use Rattle.replay_text.specs.Replay.{longer, lines}
use Rattle.replay_text.specs.Answered.{has_line_feed, whole_part, unfinished}
use Rattle.replay_text.specs.Session.{last_line}

-- ---- where a line feed stands
pub line-found : (chars : List ℕ) → index_of line_feed chars < length chars → has_line_feed chars ≡ true
unfolding index_of
line-found [] h = absurd (omega arith)
line-found (c ∷ chars) h =
    by_cases (eqb c line_feed) (λ t. simp t) (λ f. simp f (line-found chars (omega (arith, simp f at h))))

pub none_found : (chars : List ℕ) → length chars ≤ index_of line_feed chars → has_line_feed chars ≡ false
unfolding index_of
none_found [] h = refl
none_found (c ∷ chars) h =
    by_cases (eqb c line_feed) (λ t. absurd (omega (arith, simp t at h))) (λ f. simp f (none_found chars (omega (arith, simp f at h))))

pub inside : (chars : List ℕ) → has_line_feed chars ≡ true → index_of line_feed chars < length chars
unfolding index_of
inside [] some = absurd (false≢true some)
inside (c ∷ chars) some =
    by_cases (eqb c line_feed) (λ t. simp t (omega arith)) (λ f. simp f (omega (arith, inside chars (simp f at some))))

pub line-within : (chars : List ℕ) → index_of line_feed chars ≤ length chars
unfolding index_of
line-within [] = omega arith
line-within (c ∷ chars) = by_cases (eqb c line_feed) (λ t. simp t (omega arith)) (λ f. simp f (omega (arith, line-within chars)))

-- ---- the first line
-- it ends before the first line feed, whether all lines are asked for, with whatever follows, ...
pub first-line : (chars later : List ℕ) → has_line_feed chars ≡ true
    → lines (chars ++ later) ≡ take (index_of line_feed chars) chars ∷ lines (drop (suc (index_of line_feed chars)) chars ++ later)
unfolding lines index_of
first-line [] later some = absurd (false≢true some)
first-line (c ∷ chars) later some =
    by_cases (eqb c line_feed) (λ t. simp t) (λ f. simp (f, first-line chars later (simp f at some)))

-- ... or the whole ones
pub first-whole-line : (chars : List ℕ) → has_line_feed chars ≡ true
    → lines (whole_part chars) ≡ take (index_of line_feed chars) chars ∷ lines (whole_part (drop (suc (index_of line_feed chars)) chars))
unfolding lines whole_part index_of
first-whole-line [] some = absurd (false≢true some)
first-whole-line (c ∷ chars) some =
    by_cases (eqb c line_feed) (λ t. simp t)
    (λ f. let more : has_line_feed chars ≡ true = simp f at some in simp (f, more, first-whole-line chars more))

pub no_whole_line : (chars : List ℕ) → has_line_feed chars ≡ false → lines (whole_part chars) ≡ []
unfolding lines whole_part
no_whole_line [] none = refl
no_whole_line (c ∷ chars) none = rw none

-- ---- the whole lines, and what is left behind them
pub whole_and_unfinished : (chars : List ℕ) → whole_part chars ++ unfinished chars ≡ chars
unfolding whole_part unfinished
whole_and_unfinished [] = refl
whole_and_unfinished (c ∷ chars) =
    by_cases (has_line_feed (c ∷ chars)) (λ t. rw t (ap (λ (l : List ℕ). c ∷ l) (whole_and_unfinished chars))) (λ f. rw f)

pub unfinished-has-none : (chars : List ℕ) → has_line_feed (unfinished chars) ≡ false
unfolding unfinished
unfinished-has-none [] = refl
unfinished-has-none (c ∷ chars) =
    by_cases (has_line_feed (c ∷ chars)) (λ t. rw t (unfinished-has-none chars)) (λ f. rw f f)

-- the unfinished line is that of what follows the first line
pub unfinished-behind : (chars : List ℕ) → has_line_feed chars ≡ true → unfinished (drop (suc (index_of line_feed chars)) chars) ≡ unfinished chars
unfolding unfinished index_of
unfinished-behind [] some = absurd (false≢true some)
unfinished-behind (c ∷ chars) some =
    by_cases (eqb c line_feed) (λ t. simp t)
    (λ f. let more : has_line_feed chars ≡ true = simp f at some in simp (f, more) (unfinished-behind chars more))

-- a last line that got its line feed is finished
pub last-line-finished : (line : List ℕ) → has_line_feed line ≡ false → unfinished (last_line line) ≡ []
unfolding unfinished
last-line-finished [] none = refl
last-line-finished (c ∷ line) none = ended-finished (c ∷ line)
  where
    has : (l : List ℕ) → has_line_feed (l ++ line_feed ∷ []) ≡ true
    has [] = refl
    has (d ∷ l) = by_cases (eqb d line_feed) (λ t. simp t) (λ f. simp f (has l))

    ended-finished : (l : List ℕ) → unfinished (l ++ line_feed ∷ []) ≡ []
    ended-finished [] = refl
    ended-finished (d ∷ l) = rw (has (d ∷ l)) (ended-finished l)

longer-apart : (c d : ℕ) (ls more : List (List ℕ)) → longer c (longer d ls ++ more) ≡ longer c (longer d ls) ++ more
longer-apart c d [] more = refl
longer-apart c d (l ∷ ls) more = refl

-- a character before whole lines changes none of the lines behind them
longer-whole : (c : ℕ) (chars : List ℕ) (more : List (List ℕ)) → has_line_feed chars ≡ true
    → longer c (lines (whole_part chars) ++ more) ≡ longer c (lines (whole_part chars)) ++ more
unfolding lines whole_part
longer-whole c [] more some = absurd (false≢true some)
longer-whole c (d ∷ chars) more some =
    by_cases (eqb d line_feed) (λ t. simp t)
    (λ f. let rest : has_line_feed chars ≡ true = simp f at some in simp (f, rest) (longer-apart c d (lines (whole_part chars)) more))

-- what follows whole lines begins a line of its own
pub whole-lines-first : (chars more : List ℕ) → lines (whole_part chars ++ more) ≡ lines (whole_part chars) ++ lines more
unfolding lines whole_part
whole-lines-first [] more = refl
whole-lines-first (c ∷ chars) more =
    by_cases (eqb c line_feed) (λ t. simp (t, whole-lines-first chars more))
    (λ f.
    by_cases (has_line_feed chars) (λ t. simp (f, t, whole-lines-first chars more) (longer-whole c chars (lines more) t)) (λ g. simp (f, g)))

-- ---- a part of a line
-- characters before the first of some lines
abbrev pub lengthened : List ℕ → List (List ℕ) → List (List ℕ)
lengthened [] ls = ls
lengthened (c ∷ part) ls = longer c (lengthened part ls)

-- a part of a line only makes the first line behind it longer
pub part_lengthens : (part more : List ℕ) → has_line_feed part ≡ false → lines (part ++ more) ≡ lengthened part (lines more)
unfolding lines
part_lengthens [] more none = refl
part_lengthens (c ∷ part) more none =
    by_cases (eqb c line_feed) (λ t. absurd (false≢true (sym none ∙ simp t)))
    (λ f. simp (f, part_lengthens part more (simp f at none)))

pub lengthened-first : (c : ℕ) (part line : List ℕ) (rest : List (List ℕ)) → lengthened (c ∷ part) (line ∷ rest) ≡ (c ∷ part ++ line) ∷ rest
lengthened-first c [] line rest = refl
lengthened-first c (d ∷ part) line rest = ap (longer c) (lengthened-first d part line rest)

pub lengthened-alone : (c : ℕ) (part : List ℕ) → lengthened (c ∷ part) [] ≡ (c ∷ part) ∷ []
lengthened-alone c [] = refl
lengthened-alone c (d ∷ part) = ap (longer c) (lengthened-alone d part)

-- a last line is the same with the line feed that it lacks
pub last-line_feed : (line : List ℕ) → has_line_feed line ≡ false → lines (last_line line) ≡ lines line
unfolding lines
last-line_feed [] none = refl
last-line_feed (c ∷ line) none =
    part_lengthens (c ∷ line) (line_feed ∷ []) none
    ∙ lengthened-first c line [] []
    ∙ rw append-nil
    (sym (lengthened-alone c line) ∙ sym (part_lengthens (c ∷ line) [] none) ∙ ap lines (append-nil (c ∷ line)))
