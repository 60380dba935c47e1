-- The line at the front of a text: how far it goes, and that it is pairs where its last pair stands behind the pairs with a space
-- after each. Assumes nothing.
use Prim.Native.Nat.{ℕ, zero, suc, ◌+◌, ◌<◌, ◌≤◌}
use mathlib.Core.Path.{◌≡◌, refl, sym, ap, ◌∙◌}
use mathlib.Core.Bool.{Bool, true, false, ◌&&◌, and-true, and-false, false≢true, and-eq-true_iff}
use mathlib.Core.List.{List, [], ◌∷◌}
use native.Mathlib.Omega.{arith}
use native.Mathlib.Nat.{zero-add}
use borrow.Author.Tests.{eqb-true, eq-eqb, ne_eqb, lt-leb}
use lib.Dec.{eqb}
use lib.ListN.{length, take, drop, get_or, length-drop}
use lib.Seq.{length-take-le}
use Rattle.logic.proofs.Choice.{by_cases}
use Rattle.logic.proofs.Written.{part_from, part-rest, part_room}
use Rattle.hex_text.specs.Scan.{is_block, spaced, is_line_end, last_pair, first_line}
use Rattle.hex_text.specs.Hex.{block, not_hex, is_digit, is_pair, space, line_feed, index_of, pairs, hex_line, line_from, line_end}
use Rattle.hex_text.proofs.Digits.{pair_digits, digit_place}
use Rattle.hex_text.proofs.Spaced.{spaced-three, spaced-none, too_few_characters, spaced-within}
use Rattle.hex_text.proofs.Pairs.{block_more, block-other, block-two}
use Rattle.hex_text.proofs.Lines.{blank, not_pairs}

-- a line feed is no digit
no_line_feed : (a : ℕ) → is_digit a ≡ true → eqb a line_feed ≡ false
no_line_feed a d = ne_eqb a line_feed (λ e. omega (arith, digit_place a d))

no_pair_high : (a b : ℕ) → eqb a line_feed ≡ true → is_pair a b ≡ false
no_pair_high a b e = rw (eqb-true a line_feed e) refl

no_pair_low : (a b : ℕ) → eqb b line_feed ≡ true → is_pair a b ≡ false
no_pair_low a b e = rw (eqb-true b line_feed e) (and-false (is_digit a))

-- a character, three characters, before a line's end
index-more : (a : ℕ) (l : List ℕ) → eqb a line_feed ≡ false → index_of line_feed (a ∷ l) ≡ suc (index_of line_feed l)
unfolding index_of
index-more a l e = simp e

index-end : (a : ℕ) (l : List ℕ) → eqb a line_feed ≡ true → index_of line_feed (a ∷ l) ≡ 0
unfolding index_of
index-end a l e = simp e

index-three : (a b c : ℕ) (l : List ℕ) → is_pair a b && eqb c space ≡ true → index_of line_feed (a ∷ b ∷ c ∷ l) ≡ suc (suc (suc (index_of line_feed l)))
index-three a b c l t =
    let p = (and-eq-true_iff (is_pair a b) (eqb c space)).0 t in
    let d = pair_digits a b p.0 in
    let e = eqb-true c space p.1 in
    rw (index-more a (b ∷ c ∷ l) (no_line_feed a d.0), index-more b (c ∷ l) (no_line_feed b d.1), index-more c l (ne_eqb c line_feed (λ w. omega arith))) refl

-- a line goes on behind the pairs with a space after each
rest_of-line : (l : List ℕ) → index_of line_feed l ≡ spaced l + index_of line_feed (drop (spaced l) l)
rest_of-line [] = rw (too_few_characters [] (omega arith)) (sym (zero-add _))
rest_of-line (a ∷ []) = rw (too_few_characters (a ∷ []) (omega arith)) (sym (zero-add _))
rest_of-line (a ∷ b ∷ []) = rw (too_few_characters (a ∷ b ∷ []) (omega arith)) (sym (zero-add _))
rest_of-line (a ∷ b ∷ c ∷ l) =
    by_cases (is_pair a b && eqb c space)
    (λ t. rw (spaced-three a b c l t, index-three a b c l t) (omega (arith, rest_of-line l)))
    (λ f. rw (spaced-none a b c l f) (sym (zero-add _)))

line-ends : (l : List ℕ) → is_line_end l ≡ true → index_of line_feed l ≡ 0
unfolding index_of
line-ends [] e = refl
line-ends (c ∷ l) e = index-end c l e

pub index-within : (l : List ℕ) → index_of line_feed l ≤ length l
unfolding index_of
index-within [] = omega arith
index-within (c ∷ l) =
    by_cases (eqb c line_feed) (λ t. omega (arith, index-end c l t)) (λ f. omega (arith, index-more c l f, index-within l))

-- where the first line feed is known, and where there is none
pub first-there : (l : List ℕ) (k : ℕ) → k < length l → ((j : ℕ) → j < k → get_or l j 0 ≡ line_feed → ⊥) → get_or l k 0 ≡ line_feed → index_of line_feed l ≡ k
first-there [] k h others here = absurd (omega arith)
first-there (c ∷ l) zero h others here = index-end c l (eq-eqb c line_feed here)
first-there (c ∷ l) (suc k) h others here =
    index-more c l (ne_eqb c line_feed (others 0 (omega arith))) ∙ ap suc (first-there l k (omega arith) (λ j below. others (suc j) (omega arith)) here)

pub nowhere : (l : List ℕ) → ((j : ℕ) → j < length l → get_or l j 0 ≡ line_feed → ⊥) → index_of line_feed l ≡ length l
unfolding index_of
nowhere [] others = refl
nowhere (c ∷ l) others =
    index-more c l (ne_eqb c line_feed (others 0 (omega arith))) ∙ ap suc (nowhere l (λ j below. others (suc j) (omega arith)))

-- a last pair is two characters before its line's end
last-ends : (l : List ℕ) → last_pair l ≡ true → (index_of line_feed l ≡ 2) × (2 ≤ length l)
unfolding last_pair index_of
last-ends [] e = absurd (false≢true e)
last-ends (a ∷ []) e = absurd (false≢true e)
last-ends (a ∷ b ∷ l) e =
    let p = (and-eq-true_iff (is_pair a b) (is_line_end l)).0 e in
    let d = pair_digits a b p.0 in (
      index-more a (b ∷ l) (no_line_feed a d.0) ∙ ap suc (index-more b l (no_line_feed b d.1) ∙ ap suc (line-ends l p.1)),
      omega arith,
    )

-- whether the line at the front is pairs
LinePairs : List ℕ → Bool → Type 0
LinePairs l t = is_block (pairs (take (index_of line_feed l) l)) ≡ t

empty-line : (a : ℕ) (l : List ℕ) → eqb a line_feed ≡ true → LinePairs (a ∷ l) false
unfolding LinePairs pairs
empty-line a l e = rw (index-end a l e) refl

short-line : (a b : ℕ) (l : List ℕ) → eqb a line_feed ≡ false → eqb b line_feed ≡ true → LinePairs (a ∷ b ∷ l) false
unfolding LinePairs pairs
short-line a b l e f = rw (index-more a (b ∷ l) e, index-end b l f) refl

one_left : (a : ℕ) → LinePairs (a ∷ []) false
unfolding LinePairs pairs index_of
one_left a = by_cases (eqb a line_feed) (λ t. empty-line a [] t) (λ f. rw (index-more a [] f) refl)

two-left : (a b : ℕ) → LinePairs (a ∷ b ∷ []) (is_pair a b)
unfolding LinePairs index_of
two-left a b =
    by_cases (eqb a line_feed) (λ t. rw (no_pair_high a b t) (empty-line a (b ∷ []) t))
    (λ f.
    by_cases (eqb b line_feed) (λ t. rw (no_pair_low a b t) (short-line a b [] f t))
    (λ g. rw (index-more a (b ∷ []) f, index-more b [] g) (block-two a b)))

three-left : (a b c : ℕ) (l : List ℕ) → is_pair a b && eqb c space ≡ false → LinePairs (a ∷ b ∷ c ∷ l) (is_pair a b && eqb c line_feed)
unfolding LinePairs
three-left a b c l other =
    by_cases (eqb a line_feed) (λ t. rw (no_pair_high a b t) (empty-line a (b ∷ c ∷ l) t))
    (λ f.
    by_cases (eqb b line_feed) (λ t. rw (no_pair_low a b t) (short-line a b (c ∷ l) f t))
    (λ g.
    by_cases (eqb c line_feed) (λ t. rw (index-more a (b ∷ c ∷ l) f, index-more b (c ∷ l) g, index-end c l t, t) (block-two a b ∙ sym (and-true (is_pair a b))))
    (λ h. rw (index-more a (b ∷ c ∷ l) f, index-more b (c ∷ l) g, index-more c l h, h) (block-other a b c (take (index_of line_feed l) l) other ∙ sym (and-false (is_pair a b))))))

line-pairs : (l : List ℕ) → is_block (pairs (take (index_of line_feed l) l)) ≡ last_pair (drop (spaced l) l)
unfolding last_pair LinePairs pairs index_of spaced
line-pairs [] = refl
line-pairs (a ∷ []) = rw (too_few_characters (a ∷ []) (omega arith)) (one_left a)
line-pairs (a ∷ b ∷ []) = rw (too_few_characters (a ∷ b ∷ []) (omega arith)) (two-left a b ∙ sym (and-true (is_pair a b)))
line-pairs (a ∷ b ∷ c ∷ l) =
    by_cases (is_pair a b && eqb c space)
    (λ t. rw (index-three a b c l t, spaced-three a b c l t) (block_more a b c (take (index_of line_feed l) l) t ∙ line-pairs l))
    (λ f. rw (spaced-none a b c l f) (three-left a b c l f))

-- whether the last pair of a line stands at the front of a text
pub last-short : (l : List ℕ) → length l < 2 → last_pair l ≡ false
unfolding last_pair
last-short [] h = refl
last-short (a ∷ []) h = refl
last-short (a ∷ b ∷ l) h = absurd (omega arith)

pub no_last : (l : List ℕ) → is_pair (get_or l 0 0) (get_or l 1 0) ≡ false → last_pair l ≡ false
unfolding last_pair
no_last [] p = refl
no_last (a ∷ []) p = refl
no_last (a ∷ b ∷ l) p = simp p

pub last-here : (l : List ℕ) → 2 ≤ length l → is_pair (get_or l 0 0) (get_or l 1 0) ≡ true → last_pair l ≡ is_line_end (drop 2 l)
unfolding last_pair
last-here [] h p = absurd (omega arith)
last-here (a ∷ []) h p = absurd (omega arith)
last-here (a ∷ b ∷ l) h p = simp p

nothing_taken : (n : ℕ) (l : List ℕ) → length l ≡ 0 → length (take n l) ≡ 0
nothing_taken zero l e = refl
nothing_taken (suc n) [] e = refl
nothing_taken (suc n) (a ∷ l) e = absurd (omega arith)

-- the line that starts past the end of a text
pub past_end : (text : List ℕ) (from : ℕ) → length text < from → (length text ≡ line_end from text) × (hex_line (line_from from text) ≡ block [])
past_end text from h =
    let none : length (line_from from text) ≡ 0 = nothing_taken (index_of line_feed (drop from text)) (drop from text) (omega (arith, length-drop from text)) in
    (simp (lt-leb from (length text) h), blank (line_from from text) (omega arith) none)

-- pairs with a space after each go to the place `last` of a text, and `part_from last` is what stands behind them
module _ (text : List ℕ) (last : ℕ) (place : last ≡ spaced text) where
  pub last_within : last ≤ length text
  last_within = omega (arith, spaced-within text)

  behind : {A : Type 0} (f : List ℕ → A) → f (part_from last text) ≡ f (drop (spaced text) text)
  behind f = ap f (part-rest last text ∙ ap (λ (k : ℕ). drop k text) place)

  pub found-end : (found : ℕ) → found ≡ index_of line_feed (part_from last text) → last + found ≡ index_of line_feed text
  found-end found is = omega (arith, rest_of-line text, behind (index_of line_feed))

  test_here : is_block (pairs (first_line text)) ≡ last_pair (part_from last text)
  test_here = line-pairs text ∙ sym (behind last_pair)

  -- the last pair stands there: so the line is pairs, and ends behind it
  module _ (ends : true ≡ last_pair (part_from last text)) where
    pub pair-within : last + 2 ≤ length text
    pair-within = omega (arith, last_within, (last-ends (part_from last text) (sym ends)).1, part_room last text)

    pub pair_end : last + 2 ≡ index_of line_feed text
    pair_end = found-end 2 (sym (last-ends (part_from last text) (sym ends)).0)

    pub pair-pairs : is_block (pairs (first_line text)) ≡ true
    pair-pairs = test_here ∙ sym ends

  -- no last pair stands there: so the line is empty or not hex, and ends where the line feed is found
  module _ (other : false ≡ last_pair (part_from last text)) where
    chars : length (first_line text) ≡ index_of line_feed text
    chars = length-take-le (index_of line_feed text) text (index-within text)

    pub found-empty : index_of line_feed text ≡ 0 → hex_line (first_line text) ≡ block []
    found-empty e = blank (first_line text) (omega (arith, chars)) (omega (arith, chars))

    pub found-other : (index_of line_feed text ≡ 0 → ⊥) → hex_line (first_line text) ≡ not_hex
    found-other n = not_pairs (first_line text) (λ none. n (omega (arith, chars))) (test_here ∙ sym other)
