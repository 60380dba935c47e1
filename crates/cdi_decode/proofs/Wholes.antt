-- When a value is whole: a name by its last byte, any other value by its length and the item's own rule.
-- Assumes nothing.
use Prim.Native.Nat.{ℕ, ◌+◌, ◌-◌, ◌%◌, ◌<◌, ◌≤◌}
use mathlib.Core.Path.{◌≡◌, refl, sym, ap, ◌∙◌}
use mathlib.Core.Bool.{Bool, true, false, not, ◌&&◌, and-false, true≢false}
use mathlib.Core.List.{List, [], ◌∷◌, ◌++◌}
use native.Mathlib.Omega.{arith}
use borrow.Author.Tests.{eq-eqb, ne_eqb, eqb-true, eqb-false, lt-leb, le-leb, ltb-true, ltb-false}
use lib.Dec.{eqb, ltb}
use lib.ListN.{length, get_or, take, length-append}
use lib.Seq.{take-append_seam, get_or-append_seam}
use Rattle.logic.specs.Lists.{has_zero}
use Rattle.logic.proofs.Choice.{by_cases, neither}
use Rattle.logic.proofs.Places.{all_is_bytes}
use Rattle.refusal.specs.Refusal.{accepted}
use Rattle.cdi_item.specs.declared.Item.{Item}
use Rattle.cdi_item.specs.Items.{item_of, name, name_length, status, analog_input, paired_module}
use Rattle.cdi_item.specs.Bits.{event_flag}
use Rattle.cdi_item.specs.Values.{value_bytes, accepted_value, accepted_flags}
use Rattle.cdi_item.proofs.Values.{first-decides}
use Rattle.cdi_decode.specs.Scan.{is_whole_value, row_of, first_of}
use Rattle.cdi_decode.specs.Follow.{is_held, is_ended, may_follow_in}
use Rattle.cdi_decode.specs.Decode.{place_in_value}
use Rattle.cdi_decode.proofs.First.{first_below}
use Rattle.cdi_decode.proofs.Shapes.{row-length}
use Rattle.cdi_decode.proofs.Rules.{past_end}
use Rattle.cdi_decode.proofs.Zeros.{no_zero_before}
use Rattle.cdi_decode.proofs.Names.{one-taken, unended_before, ends_last, at_zero, at_last}
use Rattle.cdi_decode.proofs.Accepted.{whole-follows, follows-whole}

-- a wrong byte
pub wrong_place : (x : Item) (v : List ℕ) → place_in_value x v < length v → is_whole_value x v ≡ false
wrong_place x v h = rw (ne_eqb (place_in_value x v) (length v) (λ e. omega arith))

unended : (x : Item) (v : List ℕ) → is_ended x v ≡ false → is_whole_value x v ≡ false
unended x v e = ap (λ (t : Bool). eqb (place_in_value x v) (length v) && t) e ∙ and-false (eqb (place_in_value x v) (length v))

-- ---- a name: its last byte is its first 00, and its seventeenth at the latest
module _ (x : Item) (is : x.code ≡ name) (v : List ℕ) (some : 1 ≤ length v) where
  -- the bytes before the last
  abbrev before : List ℕ
  before = take (length v - 1) v

  -- what the places say
  abbrev all_follow : Bool
  all_follow = eqb (place_in_value x v) (length v)

  none-before : all_follow ≡ true → has_zero before ≡ false
  none-before t = unended_before x is v some (eqb-true (place_in_value x v) (length v) t)

  last_decides : all_follow ≡ true → is_whole_value x v ≡ eqb (get_or v (length v - 1) 0) 0
  last_decides t = rw t (ends_last x is v some (eqb-true (place_in_value x v) (length v) t))

  pub other-last : (get_or v (length v - 1) 0 ≡ 0 → ⊥) → is_whole_value x v ≡ false
  other-last d =
      by_cases all_follow (λ t. last_decides t ∙ ne_eqb (get_or v (length v - 1) 0) 0 d) (λ f. rw f)

  module _ (long : x.length ≡ name_length) where
    pub long_name : 17 ≤ length v - 1 → is_whole_value x v ≡ false
    long_name h =
        by_cases all_follow
        (λ t.
        let all = eqb-true (place_in_value x v) (length v) t in
        let p = neither (has_zero (take 16 v)) (eqb (get_or v 16 0) 0) (sym (one-taken v 16 (omega arith)) ∙ no_zero_before v 17 (length v - 1) h (none-before t)) in
        let short = at_last x is long v (omega arith) p.0 (eqb-false (get_or v 16 0) 0 p.1) in
        absurd (omega arith))
        (λ f. rw f)

    pub right_name : length v - 1 < 17 → get_or v (length v - 1) 0 ≡ 0 → is_whole_value x v ≡ not (has_zero before)
    right_name h e =
        by_cases (has_zero before)
        (λ t. by_cases all_follow (λ u. absurd (true≢false (sym t ∙ none-before u))) (λ f. rw (f, t)))
        (λ f.
        let place = at_zero x is long v (length v - 1) (omega arith) (omega arith) f e in
        last_decides (eq-eqb (place_in_value x v) (length v) (omega arith)) ∙ rw (e, f))

-- so it is whole if its last byte is a 00, of the others none, and these are sixteen at most
pub split_name : (x : Item) → x.code ≡ name → x.length ≡ name_length → (front : List ℕ) (last : ℕ)
    → is_whole_value x (front ++ (last ∷ [])) ≡ (eqb last 0 && (ltb (length front) 17 && not (has_zero front)))
split_name x is long front last =
    let v = front ++ (last ∷ []) in
    let size : length v ≡ length front + 1 = length-append front (last ∷ []) in
    let n : length v - 1 ≡ length front = omega arith in
    let end : get_or v (length v - 1) 0 ≡ last = rw (n, get_or-append_seam front last [] 0) refl in
    let rest : take (length v - 1) v ≡ front = rw n (take-append_seam front (last ∷ [])) in
    by_cases (eqb last 0)
    (λ t. by_cases (ltb (length front) 17)
    (λ u. right_name x is v (omega arith) long (omega (arith, ltb-true (length front) 17 u)) (end ∙ eqb-true last 0 t) ∙ rw (rest, t, u))
    (λ f. long_name x is v (omega arith) long (omega (arith, ltb-false (length front) 17 f)) ∙ rw (t, f)))
    (λ f. other-last x is v (omega arith) (λ e. eqb-false last 0 f (sym end ∙ e)) ∙ rw f)

-- ---- any other value
module _ (x : Item) (fixed : eqb x.code name ≡ false) (v : List ℕ) where
  too_long : x.length < length v → place_in_value x v < length v
  too_long h =
      by_cases (ltb x.length (place_in_value x v))
      (λ t.
      let follows = first_below (length v) (λ i. may_follow_in x (take i v) (get_or v i 0)) x.length (ltb-true x.length (place_in_value x v) t) in
      absurd (true≢false (sym follows ∙ past_end x v fixed x.length h (omega arith))))
      (λ f. omega (arith, ltb-false x.length (place_in_value x v) f))

  pub other_length : (length v ≡ x.length → ⊥) → is_whole_value x v ≡ false
  other_length d =
      by_cases (ltb (length v) x.length)
      (λ t. unended x v (rw (fixed, lt-leb x.length (length v) (ltb-true (length v) x.length t))))
      (λ f.
      let long = ltb-false (length v) x.length f in
      wrong_place x v (too_long (omega (arith, d))))

  module _ (listed : item_of x.code ≡ accepted x) (full : length v ≡ x.length) where
    ended : is_ended x v ≡ true
    ended = rw (fixed, le-leb x.length (length v) (omega arith))

    held_whole : is_whole_value x v ≡ is_held x v
    held_whole =
        by_cases (is_held x v)
        (λ t. ap (λ (b : Bool). eqb (place_in_value x v) (length v) && b) ended ∙
        ap (λ (b : Bool). b && true) (eq-eqb (place_in_value x v) (length v) (whole-follows x listed fixed v full t)) ∙ sym t)
        (λ f. by_cases (eqb (place_in_value x v) (length v))
        (λ t. absurd (true≢false (sym (follows-whole x listed fixed v full (eqb-true (place_in_value x v) (length v) t)) ∙ f)))
        (λ g. ap (λ (b : Bool). b && is_ended x v) g ∙ sym f))

    pub status-whole : x.code ≡ status → is_whole_value x v ≡ accepted_flags (get_or v 0 0 % event_flag)
    status-whole is = held_whole ∙ rw is

    module _ (other : eqb x.code status ≡ false) where
      by_rule : is_whole_value x v ≡ accepted_value x.code v
      by_rule = held_whole ∙ rw (fixed, other)

      five_bytes : length v ≡ 5 → accepted_value x.code (value_bytes (row_of v)) ≡ accepted_value x.code v
      five_bytes five = ap (accepted_value x.code) (all_is_bytes 5 v five)

      pub input-whole : x.code ≡ analog_input → is_whole_value x v ≡ accepted_value analog_input (value_bytes (row_of v))
      input-whole is =
          let five = full ∙ row-length x listed (rw is) in
          by_rule ∙ sym (five_bytes five) ∙ ap (λ (code : ℕ). accepted_value code (value_bytes (row_of v))) is

      pub slot_whole : x.code ≡ paired_module → is_whole_value x v ≡ accepted_value paired_module (value_bytes (row_of v))
      slot_whole is =
          let five = full ∙ row-length x listed (rw is) in
          by_rule ∙ sym (five_bytes five) ∙ ap (λ (code : ℕ). accepted_value code (value_bytes (row_of v))) is

      pub bytes_whole : eqb x.code analog_input ≡ false → eqb x.code paired_module ≡ false
          → is_whole_value x v ≡ accepted_value x.code (value_bytes (first_of v))
      bytes_whole f g = by_rule ∙ first-decides x.code v (value_bytes (first_of v)) f g refl
