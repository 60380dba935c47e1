-- The pairs with a space after each: one more of them or none, at a list's front and from a place on.
-- Assumes nothing.
use Prim.Native.Nat.{ℕ, suc, ◌+◌, ◌-◌, ◌<◌, ◌≤◌}
use mathlib.Core.Path.{◌≡◌, refl, ◌∙◌}
use mathlib.Core.Bool.{true, false, cond, ◌&&◌, and-false}
use mathlib.Core.List.{List, [], ◌∷◌}
use native.Mathlib.Omega.{arith}
use native.Mathlib.Nat.{add-zero}
use native.Mathlib.Numerals.{add-three}
use borrow.Author.Tests.{eq-eqb, ne_eqb}
use lib.Dec.{eqb}
use lib.ListN.{length, drop, get_or, length-drop}
use lib.Seq.{get_or-drop, drop-drop}
use Rattle.logic.proofs.Choice.{by_cases}
use Rattle.hex_text.specs.Scan.{spaced}
use Rattle.hex_text.specs.Hex.{is_pair, space}

three_characters : (l : List ℕ) → 2 < length l → spaced l ≡ cond (is_pair (get_or l 0 0) (get_or l 1 0) && eqb (get_or l 2 0) space) (spaced (drop 3 l) + 3) 0
unfolding spaced
three_characters [] h = absurd (omega arith)
three_characters (a ∷ []) h = absurd (omega arith)
three_characters (a ∷ b ∷ []) h = absurd (omega arith)
three_characters (a ∷ b ∷ c ∷ l) h = refl

pub too_few_characters : (l : List ℕ) → length l ≤ 2 → spaced l ≡ 0
unfolding spaced
too_few_characters [] h = refl
too_few_characters (a ∷ []) h = refl
too_few_characters (a ∷ b ∷ []) h = refl
too_few_characters (a ∷ b ∷ c ∷ l) h = absurd (omega arith)

module _ (a b c : ℕ) (l : List ℕ) where
  pub spaced-three : is_pair a b && eqb c space ≡ true → spaced (a ∷ b ∷ c ∷ l) ≡ suc (suc (suc (spaced l)))
  unfolding spaced
  spaced-three t = simp t (add-three (spaced l))

  pub spaced-none : is_pair a b && eqb c space ≡ false → spaced (a ∷ b ∷ c ∷ l) ≡ 0
  unfolding spaced
  spaced-none f = simp f

pub spaced-within : (l : List ℕ) → spaced l ≤ length l
spaced-within [] = omega (arith, too_few_characters [] (omega arith))
spaced-within (a ∷ []) = omega (arith, too_few_characters (a ∷ []) (omega arith))
spaced-within (a ∷ b ∷ []) = omega (arith, too_few_characters (a ∷ b ∷ []) (omega arith))
spaced-within (a ∷ b ∷ c ∷ l) =
    by_cases (is_pair a b && eqb c space) (λ t. omega (arith, spaced-three a b c l t, spaced-within l)) (λ f. omega (arith, spaced-none a b c l f))

-- the same from a place of a text on
module _ (text : List ℕ) (i : ℕ) where
  -- two characters or fewer are left
  pub spaced-short : length text - i ≤ 2 → spaced (drop i text) ≡ 0
  spaced-short h = too_few_characters (drop i text) (rw length-drop h)

  module _ (h : 2 < length text - i) where
    spaced-left : spaced (drop i text) ≡ cond (is_pair (get_or text i 0) (get_or text (i + 1) 0) && eqb (get_or text (i + 2) 0) space) (spaced (drop (i + 3) text) + 3) 0
    spaced-left = three_characters (drop i text) (rw length-drop h) ∙ simp (get_or-drop, drop-drop, add-zero)

    pub spaced-more : is_pair (get_or text i 0) (get_or text (i + 1) 0) ≡ true → get_or text (i + 2) 0 ≡ space → spaced (drop i text) ≡ spaced (drop (i + 3) text) + 3
    spaced-more p e = spaced-left ∙ simp (p, eq-eqb (get_or text (i + 2) 0) space e)

    pub no_pair : is_pair (get_or text i 0) (get_or text (i + 1) 0) ≡ false → spaced (drop i text) ≡ 0
    no_pair p = spaced-left ∙ simp p

    pub no_space : (get_or text (i + 2) 0 ≡ space → ⊥) → spaced (drop i text) ≡ 0
    no_space n = spaced-left ∙ simp (ne_eqb (get_or text (i + 2) 0) space n, and-false)
