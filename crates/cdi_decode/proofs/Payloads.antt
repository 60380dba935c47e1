-- What a payload is read as, by how far it is the head of a response and by the value after it.
-- Assumes nothing.
use Prim.Native.Nat.{ℕ, zero, suc, ◌+◌, ◌-◌, ◌<◌, ◌≤◌}
use mathlib.Core.Path.{◌≡◌, sym, ap, ◌∙◌}
use mathlib.Core.Bool.{true, cond}
use mathlib.Core.List.{List, [], ◌∷◌}
use native.Mathlib.Nat.{zero-add, suc-add}
use native.Mathlib.Omega.{arith}
use borrow.Author.Tests.{eq-eqb, ne_eqb, lt-ltb, le-ltb, le-leb, lt-leb, ltb-true, ltb-false, eqb-true, eqb-false}
use lib.Dec.{eqb, ltb}
use lib.ListN.{length, get_or, take, drop, length-drop}
use lib.Seq.{length-take-le, get_or-drop, take-nil}
use Rattle.logic.proofs.Choice.{by_cases}
use Rattle.cdi_item.specs.declared.Item.{Item}
use Rattle.cdi_decode.specs.Scan.{SameUpTo, is_whole_value}
use Rattle.cdi_decode.specs.Follow.{is_ended, may_follow_in, no_value, may_follow, is_whole}
use Rattle.cdi_decode.specs.Decode.{response, no_response, first_failing, place_in_value, place_in, read_as}
use Rattle.cdi_decode.proofs.First.{first_is, first-same, first-from}
use Rattle.cdi_decode.proofs.Rules.{empty-place, asked}

-- how far bytes are the same, told from how far they are after the first k
pub same_from : (k n : ℕ) (head p : List ℕ) → k ≤ length head → k ≤ length p → ((i : ℕ) → i < k → get_or p i 0 ≡ get_or head i 0)
    → SameUpTo (drop k head) (drop k p) n → SameUpTo head p (k + n)
same_from k n head p h l first s = record {
  within-expected = omega (arith, s.within-expected, length-drop k head);
  within-found = omega (arith, s.within-found, length-drop k p);
  same = same;
  differs = λ a b e. s.differs (omega (arith, length-drop k head)) (omega (arith, length-drop k p)) (get_or-drop k p n 0 ∙ e ∙ sym (get_or-drop k head n 0));
}
  where
    same : (i : ℕ) → i < k + n → get_or p i 0 ≡ get_or head i 0
    same i q =
        by_cases (ltb i k) (λ t. first i (ltb-true i k t))
        (λ f.
        let past = ltb-false i k f in
        let e : k + (i - k) ≡ i = omega arith in
        let there = s.same (i - k) (omega arith) in
        rw (← e) (sym (get_or-drop k p (i - k) 0) ∙ there ∙ get_or-drop k head (i - k) 0))

-- a front of what is after some bytes
drop-taken : (k i : ℕ) (l : List ℕ) → drop k (take (k + i) l) ≡ take i (drop k l)
drop-taken zero i l = rw (zero-add i)
drop-taken (suc k) i [] = rw (take-nil (suc k + i), take-nil i)
drop-taken (suc k) i (a ∷ l) = rw suc-add (drop-taken k i l)

-- the bytes of the head
module _ (head : List ℕ) (x : Item) (p : List ℕ) where
  pub head-asked : (i : ℕ) → i < length p → i < length head → may_follow head x (take i p) (get_or p i 0) ≡ eqb (get_or p i 0) (get_or head i 0)
  unfolding may_follow
  head-asked i h k = rw (length-take-le i p (omega arith), lt-ltb i (length head) k)

  -- and of the value
  value-asked : (i : ℕ) → length head + i < length p
      → may_follow head x (take (length head + i) p) (get_or p (length head + i) 0) ≡ may_follow_in x (take i (drop (length head) p)) (get_or (drop (length head) p) i 0)
  unfolding may_follow
  value-asked i h =
      rw (length-take-le (length head + i) p (omega arith), le-ltb (length head + i) (length head) (omega arith), get_or-drop (length head) p i 0)
      (ap (λ (l : List ℕ). may_follow_in x l (get_or p (length head + i) 0)) (drop-taken (length head) i p))

  module _ (start : ℕ) where
    -- a payload whose head is wrong, or not whole, is no response
    pub wrong_head : (n : ℕ) → SameUpTo head p n → n < length head → read_as head x start p ≡ no_response n
    unfolding read_as is_whole
    wrong_head n s k =
        let place : place_in head x p ≡ n =
        first_is (length p) n _ s.within-found
        (λ i q. head-asked i (omega (arith, s.within-found)) (omega arith) ∙ eq-eqb _ _ (s.same i q))
        (λ q. head-asked n q k ∙ ne_eqb _ _ (s.differs k q))
        in
        rw place
        (by_cases (eqb n (length p))
        (λ t. rw (lt-leb (length head) (length p) (omega (arith, eqb-true n (length p) t)), t))
        (λ f. rw f))

    -- after the head the value decides
    module _ (same : SameUpTo head p (length head)) where
      abbrev value : List ℕ
      value = drop (length head) p

      long : length head ≤ length p
      long = same.within-found

      all : length p ≡ length head + length value
      all = omega (arith, long, length-drop (length head) p)

      pub after-head : place_in head x p ≡ length head + place_in_value x value
      after-head =
          ap (λ (n : ℕ). first_failing n (λ i. may_follow head x (take i p) (get_or p i 0))) all ∙
          first-from (length head) (length value) (λ i. may_follow head x (take i p) (get_or p i 0))
          (λ i q. head-asked i (omega (arith, long)) q ∙ eq-eqb _ _ (same.same i q)) ∙
          ap (λ (n : ℕ). length head + n) (first-same (length value) _ _ (λ i q. value-asked i (omega (arith, all))))

      pub whole-asked : is_whole head x p ≡ is_ended x value
      unfolding is_whole
      whole-asked = rw (le-leb (length head) (length p) long)

      at-end : eqb (length head + place_in_value x value) (length p) ≡ eqb (place_in_value x value) (length value)
      at-end =
          by_cases (eqb (place_in_value x value) (length value))
          (λ t. let e = eqb-true (place_in_value x value) (length value) t in eq-eqb (length head + place_in_value x value) (length p) (omega (arith, all)) ∙ sym t)
          (λ f. let d = eqb-false (place_in_value x value) (length value) f in ne_eqb (length head + place_in_value x value) (length p) (λ e. d (omega (arith, all))) ∙ sym f)

      pub value-decides : read_as head x start p ≡ cond (is_whole_value x value) (response start (length p - start)) (no_response (length head + place_in_value x value))
      unfolding read_as
      value-decides = rw (after-head, whole-asked, at-end)

-- a value of no bytes has ended, and none may follow
pub none-follows : (v : List ℕ) → (place_in_value no_value v ≡ 0) × (is_ended no_value v ≡ true)
none-follows v = (by_cases (eqb (length v) 0) (λ t. empty-place no_value v (eqb-true (length v) 0 t)) (λ f. at_once (omega (arith, eqb-false (length v) 0 f))), le-leb 0 (length v) (omega arith))
  where
    at_once : 0 < length v → place_in_value no_value v ≡ 0
    at_once h = first_is (length v) 0 _ (omega arith) (λ i q. absurd (omega arith)) (λ q. asked no_value v 0 h)
