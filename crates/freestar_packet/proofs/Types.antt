-- Laws of the list of types: the host's are those under 80, no type has more than ten bytes of data, how many those have that set
-- something, what is left of the host's, and a case split on them.
-- Assumes nothing.
use Prim.Native.Nat.{ℕ, ◌<◌, ◌≤◌}
use mathlib.Core.Path.{◌≡◌, refl, sym, ap, subst, ◌∙◌}
use mathlib.Core.Bool.{Bool, true, false, not, ◌&&◌, ◌||◌, or_assoc, or-false, and-eq-true_iff, true≢false, false≢true}
use mathlib.Core.List.{List, [], ◌∷◌, ◌++◌}
use native.Mathlib.Omega.{arith}
use borrow.Author.Tests.{lt-ltb, ltb-true, leb-true, eqb-true}
use lib.Dec.{eqb, ltb, leb}
use Rattle.logic.specs.Lists.{any, all}
use Rattle.logic.proofs.Choice.{by_cases, either}
use Rattle.freestar_packet.specs.Layout.{set_pan_id, query_pan_id, set_address, query_address, set_channel, query_channel, reset, requests, answers, types, is_line, fits_in}
use Rattle.freestar_packet.specs.Laws.{data_max}

-- a test passes in one of two lists exactly if it passes in both put together
any_append : {A : Type 0} (ok : A → Bool) (xs ys : List A) → any ok xs || any ok ys ≡ any ok (xs ++ ys)
any_append ok [] ys = refl
any_append ok (x ∷ xs) ys = or_assoc (ok x) (any ok xs) (any ok ys) ∙ ap (λ (b : Bool). ok x || b) (any_append ok xs ys)

fits-either : (type size : ℕ) → fits_in requests type size || fits_in answers type size ≡ fits_in types type size
unfolding fits_in
fits-either type size = any_append (is_line type size) requests answers

-- a type without what every type of a list has is in no line of it
none-fits : (has : ℕ → Bool) (list : List (ℕ × ℕ)) (type size : ℕ) → all (λ line. has line.0) list ≡ true → has type ≡ false → fits_in list type size ≡ false
unfolding fits_in
none-fits has [] type size every e = refl
none-fits has (line ∷ list) type size every e =
    let here = (and-eq-true_iff (has line.0) (all (λ l. has l.0) list)).0 every in
    by_cases (eqb type line.0)
    (λ t. absurd (true≢false (sym here.0 ∙ ap has (sym (eqb-true type line.0 t)) ∙ e)))
    (λ f. rw f (none-fits has list type size here.1 e))

-- the host's types are those under 80
pub fits_below : (type size : ℕ) → ltb type 0x80 && fits_in types type size ≡ fits_in requests type size
fits_below type size =
    by_cases (ltb type 0x80)
    (λ t.
    rw (t, ← fits-either type size, none-fits (λ n. not (ltb n 0x80)) answers type size refl (ap not t)) (or-false (fits_in requests type size)))
    (λ f. rw (f, none-fits (λ n. ltb n 0x80) requests type size refl f))

-- so of a type under 80 they are all the types
pub fits_under : (type size : ℕ) → type < 0x80 → fits_in types type size ≡ fits_in requests type size
fits_under type size h = rw (lt-ltb type 0x80 h) at (fits_below type size)

pub request_under : (type size : ℕ) → fits_in requests type size ≡ true → type < 0x80
request_under type size e = ltb-true type 0x80 ((and-eq-true_iff (ltb type 0x80) (fits_in types type size)).0 (fits_below type size ∙ e)).0

-- data that fit are no more than the most that a line of the list has
fits-most : (list : List (ℕ × ℕ)) (most type size : ℕ) → all (λ line. leb line.1 most) list ≡ true → fits_in list type size ≡ true → size ≤ most
unfolding fits_in
fits-most [] most type size few e = absurd (false≢true e)
fits-most (line ∷ list) most type size few e =
    let here = (and-eq-true_iff (leb line.1 most) (all (λ l. leb l.1 most) list)).0 few in
    either (is_line type size line) (fits_in list type size) e
    (λ t.
    let same = (and-eq-true_iff (eqb type line.0) (eqb size line.1)).0 t in
    omega (arith, leb-true line.1 most here.0, eqb-true size line.1 same.1))
    (λ t. fits-most list most type size here.1 t)

pub fits_small : (type size : ℕ) → fits_in types type size ≡ true → size ≤ data_max
fits_small type size e = fits-most types data_max type size refl e

-- how many data those messages have that set something
module _ (size : ℕ) where
  pub pan_id_size : fits_in requests set_pan_id size ≡ true → size ≡ 2
  unfolding fits_in
  pan_id_size e = eqb-true size 2 (sym (or-false (eqb size 2)) ∙ e)

  pub address-size : fits_in requests set_address size ≡ true → size ≡ 10
  unfolding fits_in
  address-size e = eqb-true size 10 (sym (or-false (eqb size 10)) ∙ e)

  pub channel-size : fits_in requests set_channel size ≡ true → size ≡ 1
  unfolding fits_in
  channel-size e = eqb-true size 1 (sym (or-false (eqb size 1)) ∙ e)

-- a type of the host's that is none of the others is the reset
pub rest_is_reset : (type size : ℕ)
    → eqb type set_pan_id ≡ false → eqb type query_pan_id ≡ false → eqb type set_address ≡ false
    → eqb type query_address ≡ false → eqb type set_channel ≡ false → eqb type query_channel ≡ false
    → fits_in requests type size ≡ true → type ≡ reset
unfolding fits_in
rest_is_reset type size a b c d e f fits =
    eqb-true type reset ((and-eq-true_iff (eqb type reset) (eqb size 0)).0 (sym (simp (a, b, c, d, e, f) (or-false (is_line type size (reset, 0)))) ∙ fits)).0

-- a type is none of the six that read or set
pub record Other (type : ℕ) : Type 0 where
  pub not_01 : eqb type set_pan_id ≡ false
  pub not_02 : eqb type query_pan_id ≡ false
  pub not_03 : eqb type set_address ≡ false
  pub not_04 : eqb type query_address ≡ false
  pub not_05 : eqb type set_channel ≡ false
  pub not_06 : eqb type query_channel ≡ false

-- a case split on the type of a message
pub by_type : (P : ℕ → Type 0) → P set_pan_id → P query_pan_id → P set_address → P query_address → P set_channel → P query_channel
    → ((type : ℕ) → Other type → P type) → (type : ℕ) → P type
by_type P p₁ p₂ p₃ p₄ p₅ p₆ rest type =
    split set_pan_id p₁ (λ f₁. split query_pan_id p₂ (λ f₂. split set_address p₃ (λ f₃. split query_address p₄ (λ f₄.
    split set_channel p₅ (λ f₅. split query_channel p₆ (λ f₆.
    rest type (record { not_01 = f₁; not_02 = f₂; not_03 = f₃; not_04 = f₄; not_05 = f₅; not_06 = f₆ })))))))
  where
    split : (n : ℕ) → P n → (eqb type n ≡ false → P type) → P type
    split n here other = by_cases (eqb type n) (λ t. subst P (sym (eqb-true type n t)) here) other
