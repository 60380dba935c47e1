-- The place of the first byte of a value that may not follow, from each item's own rule.
-- Assumes nothing.
use Prim.Native.Nat.{ℕ, zero, suc, ◌%◌, ◌<◌, ◌≤◌}
use mathlib.Core.Path.{◌≡◌, refl, sym, ◌∙◌}
use mathlib.Core.Bool.{Bool, true, false, cond, not, ◌&&◌, or-true, true≢false}
use mathlib.Core.List.{List, [], ◌∷◌}
use native.Mathlib.Omega.{arith}
use borrow.Author.Tests.{lt-ltb, le-ltb, ltb-true, ltb-false, lt-leb, le-leb}
use lib.Dec.{eqb, ltb}
use lib.ListN.{length, get_or, take}
use lib.Seq.{take-suc, length-take-le}
use Rattle.logic.specs.Lists.{all_zero}
use Rattle.logic.proofs.Choice.{by_cases}
use Rattle.cdi_item.specs.declared.Item.{Item}
use Rattle.cdi_item.specs.Items.{name, status, analog_input, paired_module, row_length}
use Rattle.cdi_item.specs.Bits.{event_flag}
use Rattle.cdi_item.specs.Values.{accepted_input, accepted_slot, accepted_value, accepted_flags}
use Rattle.cdi_item.proofs.Values.{first-decides}
use Rattle.cdi_decode.specs.Scan.{byte_or, end_of}
use Rattle.cdi_decode.specs.Follow.{is_held, completed, is_ended, may_follow_in}
use Rattle.cdi_decode.specs.Decode.{place_in_value}
use Rattle.cdi_decode.proofs.First.{first_is}

module _ (x : Item) (v : List ℕ) where
  -- the value up to a place, completed, is one that a valid state can have
  abbrev pub held_up_to : ℕ → Bool
  held_up_to i = is_held x (completed x (take (suc i) v))

  -- what is asked of the byte at a place
  pub asked : (i : ℕ) → i < length v → may_follow_in x (take i v) (get_or v i 0) ≡ not (is_ended x (take i v)) && held_up_to i
  unfolding may_follow_in
  asked i h = rw (take-suc v i 0 h)

  module _ (fixed : eqb x.code name ≡ false) where
    -- of any item but the name, the bytes within its length
    fixed-asked : (i : ℕ) → i < length v → i < x.length → may_follow_in x (take i v) (get_or v i 0) ≡ held_up_to i
    fixed-asked i h k = asked i h ∙ rw (fixed, length-take-le i v (omega arith), lt-leb x.length i k)

    pub past_end : (i : ℕ) → i < length v → x.length ≤ i → may_follow_in x (take i v) (get_or v i 0) ≡ false
    past_end i h k = asked i h ∙ rw (fixed, length-take-le i v (omega arith), le-leb x.length i k)

    pub fixed-place : (p : ℕ) → p < length v → p < x.length → ((i : ℕ) → i < p → held_up_to i ≡ true) → held_up_to p ≡ false → place_in_value x v ≡ p
    fixed-place p h k below at =
        first_is (length v) p _ (omega arith) (λ i q. fixed-asked i (omega arith) (omega arith) ∙ below i q) (λ _. fixed-asked p h k ∙ at)

    -- where none of them is wrong, it is the end
    pub fixed-end : ((i : ℕ) → i < length v → i < x.length → held_up_to i ≡ true) → place_in_value x v ≡ end_of x v
    fixed-end all =
        by_cases (ltb (length v) x.length)
        (λ t.
        let short = ltb-true (length v) x.length t in
        rw t
        (first_is (length v) (length v) _ (omega arith) (λ i q. fixed-asked i q (omega arith) ∙ all i q (omega arith)) (λ q. absurd (omega arith))))
        (λ f.
        let long = ltb-false (length v) x.length f in
        rw f
        (first_is (length v) x.length _ long (λ i q. fixed-asked i (omega arith) q ∙ all i (omega arith) q) (λ q. past_end x.length q (omega arith))))

    -- where one test decides on every byte, the first is wrong or none is
    one_rule : (ok : Bool) → 1 ≤ x.length → 1 ≤ length v → ((i : ℕ) → i < length v → held_up_to i ≡ ok) → place_in_value x v ≡ cond ok (end_of x v) 0
    one_rule true l h rule = fixed-end (λ i p q. rule i p)
    one_rule false l h rule = fixed-place 0 (omega arith) (omega arith) (λ i q. absurd (omega arith)) (rule 0 (omega arith))

-- a value without a byte
pub empty-place : (x : Item) (v : List ℕ) → length v ≡ 0 → place_in_value x v ≡ 0
empty-place x v e = first_is (length v) 0 _ (omega arith) (λ i q. absurd (omega arith)) (λ q. absurd (omega arith))

-- ---- the status: its first byte
module _ (x : Item) (is : x.code ≡ status) (long : 1 ≤ x.length) where
  status-held : (v : List ℕ) → 1 ≤ length v → (i : ℕ) → held_up_to x v i ≡ accepted_flags (get_or v 0 0 % event_flag)
  status-held [] h i = absurd (omega arith)
  status-held (a ∷ v) h i = rw is

  pub status-place : (v : List ℕ) → 1 ≤ length v → place_in_value x v ≡ cond (accepted_flags (get_or v 0 0 % event_flag)) (end_of x v) 0
  status-place v h = one_rule x v (rw is) (accepted_flags (get_or v 0 0 % event_flag)) long h (λ i q. status-held v h i)

-- ---- an analog input: each of its first three bytes; a byte that has not come is the sample's
abbrev pub channel_of : List ℕ → ℕ
channel_of v = byte_or v 0 0xFF

abbrev pub readings_of : List ℕ → ℕ
readings_of v = byte_or v 1 0x01

abbrev pub reference_of : List ℕ → ℕ
reference_of v = byte_or v 2 0x00

-- the tests of one byte, of two and of three
abbrev pub test1 : List ℕ → Bool
test1 v = accepted_input (channel_of v ∷ 0x01 ∷ 0x00 ∷ [])

abbrev pub test2 : List ℕ → Bool
test2 v = accepted_input (channel_of v ∷ readings_of v ∷ 0x00 ∷ [])

abbrev pub test3 : List ℕ → Bool
test3 v = accepted_input (channel_of v ∷ readings_of v ∷ reference_of v ∷ [])

pub there : (v : List ℕ) (j d : ℕ) → j < length v → byte_or v j d ≡ get_or v j 0
there v j d h = rw (lt-ltb j (length v) h)

gone : (v : List ℕ) (j d : ℕ) → length v ≤ j → byte_or v j d ≡ d
gone v j d h = rw (le-ltb j (length v) h)

module _ (x : Item) (is : x.code ≡ analog_input) (five : x.length ≡ row_length) where
  first-held : (v : List ℕ) → 0 < length v → held_up_to x v 0 ≡ test1 v
  unfolding accepted_value
  first-held [] h = absurd (omega arith)
  first-held (a ∷ v) h = rw (is, there (a ∷ v) 0 0xFF h)

  second-held : (v : List ℕ) → 1 < length v → held_up_to x v 1 ≡ test2 v
  unfolding accepted_value
  second-held [] h = absurd (omega arith)
  second-held (a ∷ []) h = absurd (omega arith)
  second-held (a ∷ b ∷ v) h = rw (is, there (a ∷ b ∷ v) 0 0xFF (omega arith), there (a ∷ b ∷ v) 1 0x01 h)

  others-held : (v : List ℕ) (i : ℕ) → suc (suc i) < length v → held_up_to x v (suc (suc i)) ≡ test3 v
  unfolding accepted_value
  others-held [] i h = absurd (omega arith)
  others-held (a ∷ []) i h = absurd (omega arith)
  others-held (a ∷ b ∷ []) i h = absurd (omega arith)
  others-held (a ∷ b ∷ c ∷ v) i h =
      rw (is, there (a ∷ b ∷ c ∷ v) 0 0xFF (omega arith), there (a ∷ b ∷ c ∷ v) 1 0x01 (omega arith), there (a ∷ b ∷ c ∷ v) 2 0x00 (omega arith))

  fixed : eqb x.code name ≡ false
  fixed = rw is

  module _ (v : List ℕ) where
    -- a byte that is wrong has come
    channel-there : test1 v ≡ false → 0 < length v
    channel-there e =
        by_cases (ltb 0 (length v)) (ltb-true 0 (length v))
        (λ f. absurd (true≢false (rw (gone v 0 0xFF (ltb-false 0 (length v) f)) at e)))

    readings_there : test1 v ≡ true → test2 v ≡ false → 1 < length v
    readings_there t e =
        by_cases (ltb 1 (length v)) (ltb-true 1 (length v))
        (λ f. absurd (true≢false (sym t ∙ rw (gone v 1 0x01 (ltb-false 1 (length v) f)) at e)))

    reference_there : test2 v ≡ true → test3 v ≡ false → 2 < length v
    reference_there t e =
        by_cases (ltb 2 (length v)) (ltb-true 2 (length v))
        (λ f. absurd (true≢false (sym t ∙ rw (gone v 2 0x00 (ltb-false 2 (length v) f)) at e)))

    -- what holds of the first bytes, one after the other
    held-from : test1 v ≡ true → test2 v ≡ true → (i : ℕ) → i < length v → (2 ≤ i → test3 v ≡ true) → held_up_to x v i ≡ true
    held-from a b zero h c = first-held v h ∙ a
    held-from a b (suc zero) h c = second-held v h ∙ b
    held-from a b (suc (suc i)) h c = others-held v i h ∙ c (omega arith)

    pub wrong_channel : test1 v ≡ false → place_in_value x v ≡ 0
    wrong_channel e =
        let h = channel-there e in
        fixed-place x v fixed 0 h (omega arith) (λ i q. absurd (omega arith)) (first-held v h ∙ e)

    pub wrong_readings : test1 v ≡ true → test2 v ≡ false → place_in_value x v ≡ 1
    wrong_readings t e =
        let h = readings_there t e in
        fixed-place x v fixed 1 h (omega arith) (λ i q. only_first i q) (second-held v h ∙ e)
      where
        only_first : (i : ℕ) → i < 1 → held_up_to x v i ≡ true
        only_first zero q = first-held v (omega (arith, readings_there t e)) ∙ t
        only_first (suc i) q = absurd (omega arith)

    pub wrong_reference : test1 v ≡ true → test2 v ≡ true → test3 v ≡ false → place_in_value x v ≡ 2
    wrong_reference t u e =
        let h = reference_there u e in
        fixed-place x v fixed 2 h (omega arith) (λ i q. held-from t u i (omega arith) (λ k. absurd (omega arith))) (others-held v 0 h ∙ e)

    pub right-input : test1 v ≡ true → test2 v ≡ true → test3 v ≡ true → place_in_value x v ≡ end_of x v
    right-input t u w = fixed-end x v fixed (λ i p q. held-from t u i p (λ _. w))

-- ---- a slot: its mask
module _ (x : Item) (is : x.code ≡ paired_module) (five : x.length ≡ row_length) where
  pub address-held : (v : List ℕ) (i : ℕ) → i < length v → i < 4 → held_up_to x v i ≡ true
  unfolding accepted_value
  address-held [] i h k = absurd (omega arith)
  address-held (a ∷ v) zero h k = rw (is, five) (or-true (not (all_zero (a ∷ 0 ∷ 0 ∷ 0 ∷ []))))
  address-held (a ∷ []) (suc i) h k = absurd (omega arith)
  address-held (a ∷ b ∷ v) (suc zero) h k = rw (is, five) (or-true (not (all_zero (a ∷ b ∷ 0 ∷ 0 ∷ []))))
  address-held (a ∷ b ∷ []) (suc (suc i)) h k = absurd (omega arith)
  address-held (a ∷ b ∷ c ∷ v) (suc (suc zero)) h k = rw (is, five) (or-true (not (all_zero (a ∷ b ∷ c ∷ 0 ∷ []))))
  address-held (a ∷ b ∷ c ∷ []) (suc (suc (suc i))) h k = absurd (omega arith)
  address-held (a ∷ b ∷ c ∷ d ∷ v) (suc (suc (suc zero))) h k = rw (is, five) (or-true (not (all_zero (a ∷ b ∷ c ∷ d ∷ []))))
  address-held (a ∷ b ∷ c ∷ d ∷ v) (suc (suc (suc (suc i)))) h k = absurd (omega arith)

  pub mask_held : (a b c d e : ℕ) (t : List ℕ) → held_up_to x (a ∷ b ∷ c ∷ d ∷ e ∷ t) 4 ≡ accepted_slot (a ∷ b ∷ c ∷ d ∷ e ∷ [])
  unfolding accepted_value
  mask_held a b c d e t = rw (is, five)

  module _ (v : List ℕ) where
    slot_fixed : eqb x.code name ≡ false
    slot_fixed = rw is

    pub short_slot : length v < 5 → place_in_value x v ≡ length v
    short_slot h = fixed-end x v slot_fixed (λ i p q. address-held v i p (omega arith)) ∙ rw (five, lt-ltb (length v) 5 h)

    fifth : (v : List ℕ) → 5 ≤ length v → held_up_to x v 4 ≡ accepted_slot (get_or v 0 0 ∷ get_or v 1 0 ∷ get_or v 2 0 ∷ get_or v 3 0 ∷ get_or v 4 0 ∷ [])
    fifth [] h = absurd (omega arith)
    fifth (a ∷ []) h = absurd (omega arith)
    fifth (a ∷ b ∷ []) h = absurd (omega arith)
    fifth (a ∷ b ∷ c ∷ []) h = absurd (omega arith)
    fifth (a ∷ b ∷ c ∷ d ∷ []) h = absurd (omega arith)
    fifth (a ∷ b ∷ c ∷ d ∷ e ∷ v) h = mask_held a b c d e v

    slot_below : (i : ℕ) → i < 5 → i < length v → held_up_to x v 4 ≡ true → held_up_to x v i ≡ true
    slot_below i h l e =
        by_cases (ltb i 4) (λ t. address-held v i l (ltb-true i 4 t))
        (λ f. let four : i ≡ 4 = omega (arith, ltb-false i 4 f) in rw four e)

    pub whole_slot : 5 ≤ length v
        → place_in_value x v ≡ cond (accepted_slot (get_or v 0 0 ∷ get_or v 1 0 ∷ get_or v 2 0 ∷ get_or v 3 0 ∷ get_or v 4 0 ∷ [])) 5 4
    whole_slot h =
        rw (← fifth v h)
        (by_cases (held_up_to x v 4)
        (λ t. rw t (fixed-end x v slot_fixed (λ i p q. slot_below i (omega arith) p t) ∙ rw (five, le-ltb (length v) 5 h)))
        (λ f. rw f (fixed-place x v slot_fixed 4 (omega arith) (omega arith) (λ i q. address-held v i (omega arith) q) f)))

-- ---- any other item: its first byte
module _ (x : Item) (v : List ℕ) (a : eqb x.code name ≡ false) (b : eqb x.code status ≡ false) (c : eqb x.code analog_input ≡ false)
    (d : eqb x.code paired_module ≡ false) (long : 1 ≤ x.length) (some : 1 ≤ length v)
  where
    byte_held : (v : List ℕ) → 1 ≤ length v → (i : ℕ) → held_up_to x v i ≡ accepted_value x.code (get_or v 0 0 ∷ 0 ∷ 0 ∷ 0 ∷ 0 ∷ [])
    byte_held [] h i = absurd (omega arith)
    byte_held (y ∷ v) h i = rw (a, b) (first-decides x.code _ _ c d refl)

    pub bytes-place : place_in_value x v ≡ cond (accepted_value x.code (get_or v 0 0 ∷ 0 ∷ 0 ∷ 0 ∷ 0 ∷ [])) (end_of x v) 0
    bytes-place = one_rule x v a _ long some (λ i q. byte_held v some i)
