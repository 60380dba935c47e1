-- The place of the first byte of a name that may not follow, and when a name has ended.
-- Assumes nothing.
use Prim.Native.Nat.{ℕ, zero, suc, ◌+◌, ◌-◌, ◌<◌, ◌≤◌, min}
use mathlib.Core.Path.{◌≡◌, refl, sym, ap, ◌∙◌}
use mathlib.Core.Bool.{Bool, true, false, not, ◌&&◌, ◌||◌, and-eq-true_iff, or-false, or-true}
use mathlib.Core.List.{List, [], ◌∷◌, ◌++◌, append-nil}
use native.Mathlib.Numerals.{add-one}
use native.Mathlib.Omega.{arith}
use borrow.Author.Tests.{eq-eqb, ne_eqb, ltb-true, ltb-false, not-true}
use lib.Dec.{eqb, ltb}
use lib.ListN.{length, get_or, take, drop, replicate}
use lib.Seq.{take-suc, take_all, length-take-le}
use Rattle.logic.specs.Lists.{has_zero}
use Rattle.logic.proofs.Choice.{by_cases}
use Rattle.cdi_item.specs.declared.Item.{Item}
use Rattle.cdi_item.specs.Items.{name, name_length}
use Rattle.cdi_decode.specs.Follow.{is_ended, may_follow_in}
use Rattle.cdi_decode.specs.Decode.{place_in_value}
use Rattle.cdi_decode.proofs.First.{first_is, first_below}
use Rattle.cdi_decode.proofs.Zeros.{zero_append, zero_after, no_zero_before}
use Rattle.cdi_decode.proofs.Rules.{held_up_to, asked}

-- zeros that are not all used up have one left
zeros-left : (k n : ℕ) → k < n → has_zero (drop k (replicate n 0)) ≡ true
zeros-left k zero h = absurd (omega arith)
zeros-left zero (suc n) h = refl
zeros-left (suc k) (suc n) h = zeros-left k n (omega arith)

-- one byte more among those that are looked at
pub one-taken : (v : List ℕ) (i : ℕ) → i < length v → has_zero (take (suc i) v) ≡ has_zero (take i v) || eqb (get_or v i 0) 0
one-taken v i h = ap has_zero (take-suc v i 0 h) ∙ zero_append (take i v) (get_or v i 0 ∷ []) ∙ rw (or-false (eqb (get_or v i 0) 0))

pub zero_taken : (v : List ℕ) (i : ℕ) → i < length v → get_or v i 0 ≡ 0 → has_zero (take (suc i) v) ≡ true
zero_taken v i h e = one-taken v i h ∙ rw (eq-eqb (get_or v i 0) 0 e) (or-true (has_zero (take i v)))

-- bytes none of which is a 00
pub no_zeros : (v : List ℕ) (i : ℕ) → i ≤ length v → ((k : ℕ) → k < i → get_or v k 0 ≡ 0 → ⊥) → has_zero (take i v) ≡ false
no_zeros v zero h none = refl
no_zeros v (suc i) h none = one-taken v i h ∙ rw (no_zeros v i (omega arith) (λ k l. none k (omega arith)), ne_eqb (get_or v i 0) 0 (none i (omega arith)))

-- where each byte may follow, only the last can be a 00
pub unended_before : (x : Item) → x.code ≡ name → (v : List ℕ) → 1 ≤ length v → place_in_value x v ≡ length v → has_zero (take (length v - 1) v) ≡ false
unended_before x is v h e =
    let n = length v - 1 in
    let l : n < length v = omega arith in
    let follows = first_below (length v) (λ i. may_follow_in x (take i v) (get_or v i 0)) n (rw e l) in
    let unended : not (is_ended x (take n v)) ≡ true = ((and-eq-true_iff _ _).0 (sym (asked x v n l) ∙ follows)).0 in
    not-true _ (rw is at unended)

pub ends_last : (x : Item) → x.code ≡ name → (v : List ℕ) → 1 ≤ length v → place_in_value x v ≡ length v → is_ended x v ≡ eqb (get_or v (length v - 1) 0) 0
ends_last x is v h e =
    let n = length v - 1 in
    let all : length v ≤ suc n = omega arith in
    rw is (sym (ap has_zero (take_all (suc n) v all)) ∙ one-taken v n (omega arith) ∙ rw (unended_before x is v h e))

module _ (x : Item) (is : x.code ≡ name) (long : x.length ≡ name_length) (v : List ℕ) where
  name-held : (i : ℕ) → i < length v → held_up_to x v i ≡ has_zero (take (suc i) v ++ drop (suc i) (replicate name_length 0))
  name-held i h = rw (is, long, length-take-le (suc i) v h)

  name-asked : (i : ℕ) → i < length v → has_zero (take i v) ≡ false → may_follow_in x (take i v) (get_or v i 0) ≡ held_up_to x v i
  name-asked i h none =
      let unended : is_ended x (take i v) ≡ false = rw is none in
      asked x v i h ∙ ap (λ (t : Bool). not t && held_up_to x v i) unended

  -- before the seventeenth byte any may follow, ...
  may_follow_lem : (i : ℕ) → i < length v → i < 16 → has_zero (take i v) ≡ false → may_follow_in x (take i v) (get_or v i 0) ≡ true
  may_follow_lem i h k none =
      name-asked i h none ∙ name-held i h ∙ zero_after (take (suc i) v) (drop (suc i) (replicate name_length 0)) (zeros-left (suc i) name_length (omega arith))

  -- ... and a 00 always
  zero_follows : (i : ℕ) → i < length v → get_or v i 0 ≡ 0 → has_zero (take i v) ≡ false → may_follow_in x (take i v) (get_or v i 0) ≡ true
  zero_follows i h e none =
      name-asked i h none ∙ name-held i h ∙ zero_append (take (suc i) v) (drop (suc i) (replicate name_length 0)) ∙ rw (zero_taken v i h e)

  -- all that stand before a place without a 00
  before : (i : ℕ) → i ≤ length v → i ≤ 16 → has_zero (take i v) ≡ false → (j : ℕ) → j < i → may_follow_in x (take j v) (get_or v j 0) ≡ true
  before i h k none j l = may_follow_lem j (omega arith) (omega arith) (no_zero_before v j i (omega arith) none)

  -- a name ends with its first 00
  pub at_zero : (i : ℕ) → i < length v → i ≤ 16 → has_zero (take i v) ≡ false → get_or v i 0 ≡ 0 → place_in_value x v ≡ i + 1
  at_zero i h k none e =
      first_is (length v) (i + 1) _ (omega arith) below (λ l. over (rw add-one at l))
    where
      below : (j : ℕ) → j < i + 1 → may_follow_in x (take j v) (get_or v j 0) ≡ true
      below j l =
          by_cases (ltb j i) (λ t. before i (omega arith) k none j (ltb-true j i t))
          (λ f. let last : j ≡ i = omega (arith, ltb-false j i f) in rw last (zero_follows i h e none))

      over : suc i < length v → may_follow_in x (take (i + 1) v) (get_or v (i + 1) 0) ≡ false
      over l =
          let ended : is_ended x (take (suc i) v) ≡ true = rw is (zero_taken v i h e) in
          rw add-one (asked x v (suc i) l ∙ ap (λ (t : Bool). not t && held_up_to x v (suc i)) ended)

  -- the seventeenth byte is a 00
  pub at_last : 16 < length v → has_zero (take 16 v) ≡ false → (get_or v 16 0 ≡ 0 → ⊥) → place_in_value x v ≡ 16
  at_last h none other =
      first_is (length v) 16 _ (omega arith) (before 16 (omega arith) (omega arith) none)
      (λ _. name-asked 16 h none ∙ name-held 16 h ∙ ap has_zero (append-nil (take 17 v)) ∙ one-taken v 16 h ∙ rw (none, ne_eqb (get_or v 16 0) 0 other))

  -- a name that stops short
  pub at-end : length v ≤ 16 → has_zero v ≡ false → place_in_value x v ≡ length v
  at-end k none =
      first_is (length v) (length v) _ (omega arith) (before (length v) (omega arith) k (rw (take_all (length v) v (omega arith)) none))
      (λ l. absurd (omega arith))

  -- the place, from the first 00
  pub first_zero : (i : ℕ) → i < length v → i < 17 → get_or v i 0 ≡ 0 → ((k : ℕ) → k < i → get_or v k 0 ≡ 0 → ⊥) → place_in_value x v ≡ i + 1
  first_zero i h k e none = at_zero i h (omega arith) (no_zeros v i (omega arith) none) e

  -- and where none of the first seventeen bytes is a 00
  pub no_first : ((k : ℕ) → k < length v → k < 17 → get_or v k 0 ≡ 0 → ⊥) → place_in_value x v ≡ min (length v) 16
  no_first none =
      by_cases (ltb 16 (length v))
      (λ t.
      let h = ltb-true 16 (length v) t in
      at_last h (no_zeros v 16 (omega arith) (λ k l. none k (omega arith) (omega arith))) (none 16 h (omega arith)) ∙ omega arith)
      (λ f.
      let h = ltb-false 16 (length v) f in
      let zeros : has_zero v ≡ false = sym (ap has_zero (take_all (length v) v (omega arith))) ∙ no_zeros v (length v) (omega arith) (λ k l. none k l (omega arith)) in
      at-end h zeros ∙ omega arith)
