-- Which bytes may follow one another agrees with the accepted values of the item list: a value of the item's length, of any item but the name, has
-- no wrong byte exactly if a valid state can have it. Of the items that a Write or a Program stores, that is if the item accepts it.
-- Assumes nothing.
use Prim.Native.Nat.{ℕ, suc, ◌-◌, ◌<◌, ◌≤◌}
use mathlib.Core.Path.{◌≡◌, refl, sym, ap, ◌∙◌}
use mathlib.Core.Bool.{true, false, not, ◌&&◌, and-eq-true_iff}
use mathlib.Core.List.{List, [], ◌∷◌, append-nil}
use native.Mathlib.Omega.{arith}
use borrow.Author.Tests.{eqb-true}
use lib.Dec.{eqb, ltb, leb}
use lib.ListN.{length, get_or, take, drop_of_length-le}
use lib.Seq.{take_all}
use Rattle.logic.proofs.Choice.{by_cases}
use Rattle.logic.proofs.Places.{all_is_bytes}
use Rattle.refusal.specs.Refusal.{accepted}
use Rattle.cdi_item.specs.declared.Item.{Item}
use Rattle.cdi_item.specs.Items.{item_of, name, status, analog_input, paired_module}
use Rattle.cdi_item.specs.Values.{accepted_channel, accepted_input, accepted_slot, accepted_value}
use Rattle.cdi_item.proofs.Consistent.{found-size}
use Rattle.cdi_item.proofs.Values.{first-decides}
use Rattle.cdi_decode.specs.Scan.{end_of}
use Rattle.cdi_decode.specs.Follow.{is_held, sample, completed, is_ended, may_follow_in}
use Rattle.cdi_decode.specs.Decode.{place_in_value}
use Rattle.cdi_decode.proofs.First.{first_below}
use Rattle.cdi_decode.proofs.Shapes.{row-length, sample-length}
use Rattle.cdi_decode.proofs.Rules.{there, test1, test2, test3, held_up_to, asked, status-place, right-input, whole_slot, bytes-place}

-- the tests of an input, from the test of the whole
input_tests : (w : List ℕ) → 3 ≤ length w → accepted_input w ≡ true → (test1 w ≡ true) × (test2 w ≡ true) × (test3 w ≡ true)
input_tests w h e =
    let p = (and-eq-true_iff (accepted_channel (get_or w 0 0) && (leb 1 (get_or w 1 0) && leb (get_or w 1 0) 16)) (leb (get_or w 2 0) 1)).0 e in
    let q = (and-eq-true_iff (accepted_channel (get_or w 0 0)) (leb 1 (get_or w 1 0) && leb (get_or w 1 0) 16)).0 p.0 in
    let a = there w 0 0xFF (omega arith) in
    let b = there w 1 0x01 (omega arith) in
    let c = there w 2 0x00 (omega arith) in
    (rw (a, q.0), rw (a, b, q.0, q.1), rw (a, b, c, q.0, q.1, p.1))

module _ (x : Item) (listed : item_of x.code ≡ accepted x) (fixed : eqb x.code name ≡ false) (w : List ℕ) (full : length w ≡ x.length) where
  size : 1 ≤ x.length
  size = (found-size x.code x listed).0

  end_is : end_of x w ≡ length w
  end_is = by_cases (ltb (length w) x.length) (λ t. rw t) (λ f. rw f (sym full))

  pub whole-follows : is_held x w ≡ true → place_in_value x w ≡ length w
  unfolding accepted_value
  whole-follows held =
      by_cases (eqb x.code status)
      (λ t. status-place x (eqb-true x.code status t) size w (omega (arith, size)) ∙ rw (rw (fixed, t) at held, end_is))
      (λ g. by_cases (eqb x.code analog_input)
      (λ t.
      let is = eqb-true x.code analog_input t in
      let five = row-length x listed (rw t) in
      let tests = input_tests w (omega (arith, five)) (rw is at held) in
      right-input x is five w tests.0 tests.1 tests.2 ∙ end_is)
      (λ k. by_cases (eqb x.code paired_module)
      (λ t.
      let is = eqb-true x.code paired_module t in
      let five = row-length x listed (rw (k, t)) in
      let row : accepted_slot (get_or w 0 0 ∷ get_or w 1 0 ∷ get_or w 2 0 ∷ get_or w 3 0 ∷ get_or w 4 0 ∷ []) ≡ true = ap accepted_slot (all_is_bytes 5 w (full ∙ five)) ∙ rw is at held in
      whole_slot x is five w (omega (arith, five)) ∙ rw row (sym (full ∙ five)))
      (λ l.
      bytes-place x w fixed g k l size (omega (arith, size)) ∙
      rw (first-decides x.code (get_or w 0 0 ∷ 0 ∷ 0 ∷ 0 ∷ 0 ∷ []) w k l refl, rw (fixed, g) at held, end_is))))

  pub follows-whole : place_in_value x w ≡ length w → is_held x w ≡ true
  follows-whole e =
      let n = length w - 1 in
      let last : n < length w = omega (arith, size) in
      let all : length w ≤ suc n = omega arith in
      let passed = first_below (length w) (λ i. may_follow_in x (take i w) (get_or w i 0)) n (rw e last) in
      let held : held_up_to x w n ≡ true = ((and-eq-true_iff (not (is_ended x (take n w))) (held_up_to x w n)).0 (sym (asked x w n last) ∙ passed)).1 in
      let whole : completed x w ≡ w = rw (drop_of_length-le (sample x) {i = length w} (omega (arith, sample-length x listed))) (append-nil w) in
      ap (is_held x) (sym whole) ∙ ap (λ (l : List ℕ). is_held x (completed x l)) (sym (take_all (suc n) w all)) ∙ held
