-- The values of an item, byte by byte: each byte of what a valid state can show may follow those before it, and bytes that may follow one another
-- begin what some valid state can show.
-- Assumes nothing.
use Prim.Native.Nat.{ℕ, zero, suc, ◌-◌, ◌<◌, ◌≤◌}
use mathlib.Core.Path.{◌≡◌, refl, sym, ap, ◌∙◌}
use mathlib.Core.Bool.{true, false, not, and-eq-true_iff, true≢false}
use mathlib.Core.List.{List, [], ◌∷◌, ◌++◌, append-nil}
use native.Mathlib.Omega.{arith}
use borrow.Author.Tests.{eqb-true, ltb-true, ltb-false, le-leb, leb-true, leb-false, not-true}
use lib.Dec.{eqb, ltb}
use lib.ListN.{length, get_or, take, drop, length-append, length-drop, drop_of_length-le}
use lib.Seq.{length-take-le, take_all, take_at, get_or-take, take-take}
use Rattle.logic.specs.Lists.{has_zero, Bytes}
use Rattle.logic.proofs.Bytes.{bytes_take, bytes_drop}
use Rattle.logic.proofs.Choice.{by_cases}
use Rattle.refusal.specs.Refusal.{accepted}
use Rattle.cdi_item.specs.declared.Item.{Item}
use Rattle.cdi_item.specs.Items.{item_of, name}
use Rattle.cdi_item.specs.Values.{accepted_value}
use Rattle.cdi_decode.specs.Follow.{is_held, sample, completed, is_ended, may_follow_in, no_value}
use Rattle.cdi_decode.specs.Decode.{place_in_value}
use Rattle.cdi_decode.proofs.First.{first-most, first_below}
use Rattle.cdi_decode.proofs.Shapes.{name-length, sample-length, sample-held, sample-bytes}
use Rattle.cdi_decode.proofs.Rules.{held_up_to, asked}
use Rattle.cdi_decode.proofs.Accepted.{whole-follows}
use Rattle.cdi_decode.proofs.Names.{zero_taken, at_zero}
use Rattle.cdi_decode.proofs.Payloads.{none-follows}
use Rattle.cdi_value.specs.Value.{name_shown}
use Rattle.cdi_responses.specs.Held.{Held, shown}
use Rattle.cdi_responses.proofs.Shown.{first_zero, front-shown, all_shown}

-- bytes that a valid state can have, which begin as a value does up to the place of its first wrong byte, and are the value if it is whole
pub record BegunBy (x : Item) (v : List ℕ) : Type 0 where
  pub bytes : List ℕ
  pub is_held_lem : Held x bytes
  pub begins : take (place_in_value x v) (shown x bytes) ≡ take (place_in_value x v) v
  pub is_whole_lem : place_in_value x v ≡ length v → is_ended x v ≡ true → shown x bytes ≡ v

-- both directions, of one item
pub record Regular (x : Item) : Type 0 where
  pub some-held : Held x (sample x)
  pub follows : (w : List ℕ) → Held x w → (place_in_value x (shown x w) ≡ length (shown x w)) × (is_ended x (shown x w) ≡ true)
  pub begun : (v : List ℕ) → Bytes v → BegunBy x v

bytes-append : (a b : List ℕ) → Bytes a → Bytes b → Bytes (a ++ b)
bytes-append [] b p q i = q i
bytes-append (x ∷ a) b p q zero = p 0
bytes-append (x ∷ a) b p q (suc i) = bytes-append a b (λ j. p (suc j)) q i

module _ (x : Item) (listed : item_of x.code ≡ accepted x) where
  -- ---- what is held: each byte may follow
  Follows : List ℕ → Type 0
  Follows v = (place_in_value x v ≡ length v) × (is_ended x v ≡ true)

  fixed-follows : eqb x.code name ≡ false → (w : List ℕ) → Held x w → Follows w
  unfolding Follows
  fixed-follows f w h = (whole-follows x listed f w h.full h.held, rw f (le-leb x.length (length w) (omega (arith, h.full))))

  -- a name is shown up to its first 00
  module _ (is : x.code ≡ name) (w : List ℕ) (k : ℕ) (within : k < length w) (full : length w ≡ x.length)
      (none : has_zero (take k w) ≡ false) (zero-there : get_or w k 0 ≡ 0) where
    abbrev up_to : List ℕ
    up_to = take (suc k) w

    up_to-length : length up_to ≡ suc k
    up_to-length = length-take-le (suc k) w within

    name-follows : Follows up_to
    unfolding Follows
    name-follows =
        let long = name-length x listed is in
        let before : has_zero (take k up_to) ≡ false = ap has_zero (take-take k (suc k) w (omega arith)) ∙ none in
        let last : get_or up_to k 0 ≡ 0 = get_or-take (suc k) w k 0 (omega arith) ∙ zero-there in
        let place = at_zero x is long up_to k (omega (arith, up_to-length)) (omega arith) before last in
        (place ∙ omega (arith, up_to-length), rw is (zero_taken w k within zero-there))

  held-follows : (w : List ℕ) → Held x w → Follows (shown x w)
  held-follows w h =
      by_cases (eqb x.code name)
      (λ t.
      let is = eqb-true x.code name t in
      let z = first_zero w (rw t at h.held) in
      rw (t, z.shown) (name-follows is w z.place z.within h.full z.none_before z.is_zero))
      (λ f. rw f (fixed-follows f w h))

  -- ---- bytes that may follow one another
  module _ (v : List ℕ) (bytes : Bytes v) where
    abbrev place : ℕ
    place = place_in_value x v

    abbrev front : List ℕ
    front = take place v

    place-most : place ≤ length v
    place-most = first-most (length v) (λ i. may_follow_in x (take i v) (get_or v i 0))

    front_length : length front ≡ place
    front_length = length-take-le place v place-most

    -- what was asked of each byte before the place
    passed : (k : ℕ) → k < place → (is_ended x (take k v) ≡ false) × (held_up_to x v k ≡ true)
    passed k h =
        let e = first_below (length v) (λ i. may_follow_in x (take i v) (get_or v i 0)) k h in
        let p = (and-eq-true_iff (not (is_ended x (take k v))) (held_up_to x v k)).0 (sym (asked x v k (omega (arith, place-most))) ∙ e) in
        (not-true (is_ended x (take k v)) p.0, p.1)

    held_to : (n : ℕ) → n ≡ place → is_held x (completed x (take n v)) ≡ true
    held_to zero e = sample-held x listed
    held_to (suc k) e = (passed k (omega arith)).1

    within-fixed : eqb x.code name ≡ false → (n : ℕ) → n ≡ place → n ≤ x.length
    within-fixed f zero e = omega arith
    within-fixed f (suc k) e =
        let p = (passed k (omega arith)).0 in
        omega (arith, leb-false x.length (length (take k v)) (rw f at p), length-take-le k v (omega (arith, place-most)))

    -- the seventeenth byte of a name is a 00, so it ends there
    within-name : x.code ≡ name → place ≤ 17
    within-name is =
        by_cases (ltb 17 place)
        (λ t.
        let h = ltb-true 17 place t in
        let l : 17 ≤ length v = omega (arith, place-most) in
        let held : has_zero (take 17 v ++ []) ≡ true = rw (is, name-length x listed is, length-take-le 17 v l) at (passed 16 (omega arith)).1 in
        let open-17 : has_zero (take 17 v) ≡ false = rw is at (passed 17 h).0 in
        absurd (true≢false (sym held ∙ ap has_zero (append-nil (take 17 v)) ∙ open-17)))
        (ltb-false 17 place)

    within : place ≤ x.length
    within =
        by_cases (eqb x.code name)
        (λ t. let is = eqb-true x.code name t in omega (arith, within-name is, name-length x listed is))
        (λ f. within-fixed f place refl)

    -- they are completed to what a valid state can have
    abbrev more : List ℕ
    more = drop (length front) (sample x)

    front-held : Held x (front ++ more)
    front-held = record {
      full = omega (arith, length-append front more, length-drop (length front) (sample x), sample-length x listed, front_length, within);
      held = held_to place refl;
      bytes = bytes-append front more (bytes_take place v bytes) (bytes_drop (length front) (sample x) (sample-bytes x listed));
    }

    -- of a name no byte before the last is a 00
    none_before : x.code ≡ name → (n : ℕ) → n ≡ place → has_zero (take (n - 1) (take n v)) ≡ false
    none_before is zero e = refl
    none_before is (suc k) e =
        let less : suc k - 1 ≡ k = omega arith in
        rw (less, take-take k (suc k) v (omega arith)) (rw is at (passed k (omega arith)).0)

    open_front : x.code ≡ name → has_zero (take (length front - 1) front) ≡ false
    open_front is = rw front_length (none_before is place refl)

    front-begins : take place (shown x (front ++ more)) ≡ front
    front-begins =
        by_cases (eqb x.code name)
        (λ t.
        rw t
        (ap (λ (n : ℕ). take n (name_shown (front ++ more))) (sym front_length) ∙ front-shown front more (open_front (eqb-true x.code name t))))
        (λ f. rw f (take_at front more place front_length))

    front-whole : place ≡ length v → is_ended x v ≡ true → shown x (front ++ more) ≡ v
    front-whole e ended =
        let all : front ≡ v = take_all place v (omega arith) in
        by_cases (eqb x.code name)
        (λ t. rw t (all_shown front more (open_front (eqb-true x.code name t)) (ap has_zero all ∙ rw t at ended) ∙ all))
        (λ f.
        let long = leb-true x.length (length v) (rw f at ended) in
        let nothing : more ≡ [] = drop_of_length-le (sample x) {i = length front} (omega (arith, sample-length x listed, front_length)) in
        rw (f, nothing) (append-nil front ∙ all))

  pub listed-regular : Regular x
  unfolding Follows
  listed-regular = record {
    some-held = record { full = sample-length x listed; held = sample-held x listed; bytes = sample-bytes x listed };
    follows = held-follows;
    begun = λ v b. record {
      bytes = front v b ++ more v b;
      is_held_lem = front-held v b;
      begins = front-begins v b;
      is_whole_lem = front-whole v b;
    };
  }

-- ---- a value of no bytes
pub none-held : Held no_value []
unfolding accepted_value
none-held = record { full = refl; held = refl; bytes = λ i. omega arith }

pub no_bytes : (w : List ℕ) → Held no_value w → w ≡ []
no_bytes [] h = refl
no_bytes (b ∷ w) h = absurd (omega (arith, h.full))

pub none-regular : Regular no_value
none-regular = record {
  some-held = none-held;
  follows = λ w h. rw (no_bytes w h) (none-follows []);
  begun = λ v b. record {
    bytes = [];
    is_held_lem = none-held;
    begins = rw (none-follows v).0;
    is_whole_lem = λ e ended. sym (empty v (sym e ∙ (none-follows v).0));
  };
}
  where
    empty : (v : List ℕ) → length v ≡ 0 → v ≡ []
    empty [] h = refl
    empty (b ∷ v) h = absurd (omega arith)
