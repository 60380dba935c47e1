-- The payloads of responses, byte by byte: a head and then what a valid state can show of an item.
-- Assumes nothing.
use Prim.Native.Nat.{ℕ, ◌+◌, ◌<◌, ◌≤◌}
use mathlib.Core.Path.{◌≡◌, refl, sym, ap, ◌∙◌}
use mathlib.Core.Bool.{true, and-eq-true_iff}
use mathlib.Core.List.{List, ◌++◌}
use native.Mathlib.Omega.{arith}
use borrow.Author.Tests.{eqb-true, ltb-true, ltb-false, leb-true}
use lib.Dec.{ltb, leb}
use lib.ListN.{length, get_or, take, drop, length-append, length-drop, take-append-drop, get_or-append}
use lib.Seq.{length-take-le, take-length, take-append-le, take-append-add, take-add, drop-append_seam, get_or-take, ext_get_or}
use Rattle.logic.specs.Lists.{Bytes}
use Rattle.logic.proofs.Bytes.{bytes_drop}
use Rattle.logic.proofs.Choice.{by_cases}
use Rattle.cdi_item.specs.declared.Item.{Item}
use Rattle.cdi_decode.specs.Scan.{SameUpTo}
use Rattle.cdi_decode.specs.Follow.{is_ended, may_follow, is_whole}
use Rattle.cdi_decode.specs.Decode.{place_in_value, place_in}
use Rattle.cdi_decode.proofs.First.{first-most, first_below}
use Rattle.cdi_decode.proofs.Payloads.{head-asked, after-head, whole-asked}
use Rattle.cdi_responses.specs.Held.{Held, shown}
use Rattle.cdi_responses.proofs.Values.{BegunBy, Regular}

-- how far a payload is the head
module _ (head p : List ℕ) where
  same_so_far : (n : ℕ) → n ≡ length head → n ≤ length p → ((i : ℕ) → i < n → get_or p i 0 ≡ get_or head i 0) → SameUpTo head p (length head)
  same_so_far n e h same = record {
    within-expected = omega arith;
    within-found = omega arith;
    same = λ i q. same i (omega arith);
    differs = λ a b c. absurd (omega arith);
  }

  same-front : (n : ℕ) → n ≤ length head → n ≤ length p → ((i : ℕ) → i < n → get_or p i 0 ≡ get_or head i 0) → take n head ≡ take n p
  same-front n h k same =
      let a = length-take-le n head h in
      let b = length-take-le n p k in
      ext_get_or 0 (take n head) (take n p) (a ∙ sym b)
      (λ i q.
      let l : i < n = omega (arith, a) in
      get_or-take n head i 0 l ∙ sym (same i l) ∙ sym (get_or-take n p i 0 l))

-- ---- a head and a value that has ended
module _ (head : List ℕ) (x : Item) (v : List ℕ) (place : place_in_value x v ≡ length v) (ended : is_ended x v ≡ true) where
  same : SameUpTo head (head ++ v) (length head)
  same =
      same_so_far head (head ++ v) (length head) refl (omega (arith, length-append head v)) (λ i q. get_or-append head v 0 i q)

  value_is : drop (length head) (head ++ v) ≡ v
  value_is = drop-append_seam head v

  pub each-follows : place_in head x (head ++ v) ≡ length (head ++ v)
  each-follows =
      after-head head x (head ++ v) 0 same ∙ ap (λ (l : List ℕ). length head + place_in_value x l) value_is ∙
      ap (λ (n : ℕ). length head + n) place ∙ sym (length-append head v)

  pub is_whole_lem : is_whole head x (head ++ v) ≡ true
  is_whole_lem = whole-asked head x (head ++ v) 0 same ∙ ap (is_ended x) value_is ∙ ended

-- ---- bytes that may follow one another
-- a response that begins as a payload does up to the place of its first wrong byte, and is the payload if that is whole
pub record BegunPayload (head : List ℕ) (x : Item) (p : List ℕ) : Type 0 where
  pub bytes : List ℕ
  pub is_held_lem : Held x bytes
  pub begins : take (place_in head x p) (head ++ shown x bytes) ≡ take (place_in head x p) p
  pub is_payload : place_in head x p ≡ length p → is_whole head x p ≡ true → head ++ shown x bytes ≡ p

module _ (head : List ℕ) (x : Item) (regular : Regular x) (p : List ℕ) (bytes : Bytes p) where
  abbrev place : ℕ
  place = place_in head x p

  place-most : place ≤ length p
  place-most = first-most (length p) (λ i. may_follow head x (take i p) (get_or p i 0))

  -- each byte of the head that is before the place is the head's
  in_head : (i : ℕ) → i < place → i < length head → get_or p i 0 ≡ get_or head i 0
  in_head i h k =
      eqb-true (get_or p i 0) (get_or head i 0)
      (sym (head-asked head x p i (omega (arith, place-most)) k) ∙ first_below (length p) (λ i. may_follow head x (take i p) (get_or p i 0)) i h)

  whole-head : is_whole head x p ≡ true → length head ≤ length p
  unfolding is_whole
  whole-head w = leb-true (length head) (length p) ((and-eq-true_iff (leb (length head) (length p)) (is_ended x (drop (length head) p))).0 w).0

  -- the place is in the head
  in_the_head : place < length head → BegunPayload head x p
  in_the_head h = record {
    bytes = _;
    is_held_lem = regular.some-held;
    begins =
        take-append-le place head _ (omega arith) ∙
        same-front head p place (omega arith) place-most (λ i q. in_head i q (omega arith));
    is_payload = λ e w. absurd (omega (arith, whole-head w));
  }

  -- it is after the head
  module _ (past : length head ≤ place) where
    abbrev value : List ℕ
    value = drop (length head) p

    long : length head ≤ length p
    long = omega (arith, place-most)

    head_bytes : (i : ℕ) → i < length head → get_or p i 0 ≡ get_or head i 0
    head_bytes i q = in_head i (omega arith) q

    head-same : SameUpTo head p (length head)
    head-same = same_so_far head p (length head) refl long head_bytes

    head-taken : take (length head) p ≡ head
    head-taken = sym (same-front head p (length head) (omega arith) long head_bytes) ∙ take-length head

    place_is : place ≡ length head + place_in_value x value
    place_is = after-head head x p 0 head-same

    parts : head ++ value ≡ p
    parts = ap (λ (l : List ℕ). l ++ value) (sym head-taken) ∙ take-append-drop (length head) p

    begun : BegunBy x value
    begun = regular.begun value (bytes_drop (length head) p bytes)

    begins_so : take place (head ++ shown x begun.bytes) ≡ take place p
    begins_so =
        ap (λ (n : ℕ). take n (head ++ shown x begun.bytes)) place_is ∙
        take-append-add head (shown x begun.bytes) (place_in_value x value) ∙
        ap (λ (l : List ℕ). head ++ l) begun.begins ∙
        sym
        (ap (λ (n : ℕ). take n p) place_is ∙ take-add (length head) (place_in_value x value) p ∙
        ap (λ (l : List ℕ). l ++ take (place_in_value x value) value) head-taken)

    after_the_head : BegunPayload head x p
    after_the_head = record {
      bytes = begun.bytes;
      is_held_lem = begun.is_held_lem;
      begins = begins_so;
      is_payload = λ e w.
          ap (λ (l : List ℕ). head ++ l)
          (begun.is_whole_lem (omega (arith, place_is, length-drop (length head) p)) (sym (whole-asked head x p 0 head-same) ∙ w)) ∙ parts;
    }

  pub begun-payload : BegunPayload head x p
  begun-payload =
      by_cases (ltb place (length head)) (λ t. in_the_head (ltb-true place (length head) t)) (λ f. after_the_head (ltb-false place (length head) f))
