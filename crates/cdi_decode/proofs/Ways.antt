-- Each way out of the functions that read a payload: what is known there, and what the payload is read as.
-- Assumes nothing.
use Prim.Native.Nat.{ℕ, zero, suc, ◌+◌, ◌-◌, ◌<◌, ◌≤◌}
use mathlib.Core.Path.{◌≡◌, sym, ap, ◌∙◌, subst}
use mathlib.Core.Bool.{true, false, cond}
use mathlib.Core.List.{List, ◌∷◌}
use native.Mathlib.Omega.{arith}
use borrow.Author.Tests.{eq-eqb, ne_eqb, ltb-true, ltb-false}
use lib.Dec.{ltb}
use lib.ListN.{length, get_or, take, drop, length-drop}
use lib.Seq.{take_all}
use Rattle.std.proofs.lemmas.List.{ext_get_or}
use Rattle.logic.proofs.Choice.{by_cases}
use Rattle.cdi_item.specs.declared.Item.{Item}
use Rattle.cdi_command.specs.Payload.{ack_response, no_error}
use Rattle.cdi_decode.specs.Scan.{SameUpTo, read_head, is_whole_value}
use Rattle.cdi_decode.specs.Follow.{no_value, may_follow_in}
use Rattle.cdi_decode.specs.Decode.{Reading, response, no_response, place_in_value, read_as}
use Rattle.cdi_decode.proofs.First.{first-most}
use Rattle.cdi_decode.proofs.Heads.{head-length}
use Rattle.cdi_decode.proofs.Payloads.{same_from, wrong_head, value-decides, none-follows}

-- what is left of a list after k bytes, as a function is handed it
abbrev pub rest : ℕ → List ℕ → List ℕ
rest k l = take (length l - k) (drop k l)

pub all_rest : (k : ℕ) (l : List ℕ) → rest k l ≡ drop k l
all_rest k l = take_all (length l - k) (drop k l) (omega (arith, length-drop k l))

pub rest-length : (k : ℕ) (l : List ℕ) → length (rest k l) ≡ length l - k
rest-length k l = ap length (all_rest k l) ∙ length-drop k l

-- a payload that is wrong from its first byte on
wrong_first : (kind : ℕ) (rest p : List ℕ) (x : Item) (start : ℕ) → (get_or p 0 0 ≡ kind → ⊥) → read_as (kind ∷ rest) x start p ≡ no_response 0
wrong_first kind rest p x start other =
    wrong_head (kind ∷ rest) x p start 0
    (record { within-expected = omega arith; within-found = omega arith; same = λ i h. absurd (omega arith); differs = λ h k e. other e }) (omega arith)

-- ---- the response to a read: its head, and the value
module _ (sent p : List ℕ) (x : Item) (two : 2 ≤ length sent) (n : ℕ) (same : SameUpTo (read_head sent) p n) where
  abbrev as_a_read : Reading
  as_a_read = read_as (read_head sent) x (length sent) p

  pub wrong_argument : n < length sent → as_a_read ≡ no_response n
  wrong_argument h = wrong_head (read_head sent) x p (length sent) n same (omega (arith, head-length sent two))

  module _ (past : length sent ≤ n) where
    head-whole : length (read_head sent) ≡ n
    head-whole = omega (arith, head-length sent two, same.within-expected)

    -- the value, as it is handed on
    abbrev value : List ℕ
    value = rest n p

    value_is : drop (length (read_head sent)) p ≡ value
    value_is = ap (λ (k : ℕ). drop k p) head-whole ∙ sym (all_rest n p)

    starts : length sent ≡ n
    starts = omega (arith, head-length sent two, head-whole)

    decided : as_a_read ≡ cond (is_whole_value x value) (response n (length value)) (no_response (n + place_in_value x value))
    decided =
        value-decides (read_head sent) x p (length sent) (subst (SameUpTo (read_head sent) p) (sym head-whole) same) ∙
        rw (value_is, head-whole, starts, rest-length n p)

    pub right-value : is_whole_value x value ≡ true → as_a_read ≡ response n (length value)
    right-value t = decided ∙ rw t

    pub wrong_value : is_whole_value x value ≡ false → as_a_read ≡ no_response (n + place_in_value x value)
    wrong_value f = decided ∙ rw f

-- the place in a value is within it
pub place_most : (x : Item) (v : List ℕ) → place_in_value x v ≤ length v
place_most x v = first-most (length v) (λ i. may_follow_in x (take i v) (get_or v i 0))

pub ruleset value_ways = (wrong_argument, right-value, wrong_value, place_most, rest-length)

-- ---- the response to another command: two bytes, and the command's payload again
module _ (sent p : List ℕ) where
  abbrev echo_head : List ℕ
  echo_head = ack_response ∷ no_error ∷ sent

  abbrev as_echo : Reading
  as_echo = read_as echo_head no_value 2 p

  pub wrong_ack : (get_or p 0 0 ≡ ack_response → ⊥) → as_echo ≡ no_response 0
  wrong_ack = wrong_first ack_response (no_error ∷ sent) p no_value 2

  module _ (first : get_or p 0 0 ≡ ack_response) where
    pub wrong_error : 1 ≤ length p → (1 < length p → get_or p 1 0 ≡ no_error → ⊥) → as_echo ≡ no_response 1
    wrong_error full other =
        wrong_head echo_head no_value p 2 1
        (record { within-expected = omega arith; within-found = full; same = at_first; differs = λ h k e. other k e }) (omega arith)
      where
        at_first : (i : ℕ) → i < 1 → get_or p i 0 ≡ get_or echo_head i 0
        at_first zero h = first
        at_first (suc i) h = absurd (omega arith)

    module _ (two : 2 ≤ length p) (second : get_or p 1 0 ≡ no_error) (n : ℕ) (s : SameUpTo sent (rest 2 p) n) where
      same_echo : SameUpTo echo_head p (2 + n)
      same_echo = same_from 2 n echo_head p (omega arith) two at_first (subst (λ (l : List ℕ). SameUpTo sent l n) (all_rest 2 p) s)
        where
          at_first : (i : ℕ) → i < 2 → get_or p i 0 ≡ get_or echo_head i 0
          at_first zero h = first
          at_first (suc zero) h = second
          at_first (suc (suc i)) h = absurd (omega arith)

      wrong_echo : n < length sent → as_echo ≡ no_response (2 + n)
      wrong_echo h = wrong_head echo_head no_value p 2 (2 + n) same_echo (omega arith)

      module _ (past : length sent ≤ n) where
        whole-head : 2 + n ≡ length echo_head
        whole-head = omega (arith, s.within-expected)

        whole_echo : SameUpTo echo_head p (length echo_head)
        whole_echo = subst (SameUpTo echo_head p) whole-head same_echo

        none : place_in_value no_value (drop (length echo_head) p) ≡ 0
        none = (none-follows (drop (length echo_head) p)).0

        more_bytes : n < length (rest 2 p) → as_echo ≡ no_response (2 + n)
        more_bytes h =
            let long : 0 < length (drop (length echo_head) p) = omega (arith, length-drop (length echo_head) p, rest-length 2 p, whole-head) in
            value-decides echo_head no_value p 2 whole_echo ∙
            rw (none, ne_eqb 0 (length (drop (length echo_head) p)) (λ e. omega arith)) (ap no_response (omega (arith, whole-head)))

        whole_only : length (rest 2 p) ≤ n → as_echo ≡ response 2 (length (rest 2 p))
        whole_only h =
            let long : length p - 2 ≡ length (rest 2 p) = sym (rest-length 2 p) in
            let empty : 0 ≡ length (drop (length echo_head) p) = omega (arith, length-drop (length echo_head) p, rest-length 2 p, whole-head) in
            value-decides echo_head no_value p 2 whole_echo ∙
            rw (none, eq-eqb 0 (length (drop (length echo_head) p)) empty, (none-follows (drop (length echo_head) p)).1) (ap (response 2) long)

      -- it is another payload, from the first byte on that is not the same
      pub other-echo : (rest 2 p ≡ sent → ⊥) → as_echo ≡ no_response (2 + n)
      other-echo other =
          by_cases (ltb n (length sent)) (λ t. wrong_echo (ltb-true n (length sent) t))
          (λ f.
          let past = ltb-false n (length sent) f in
          by_cases (ltb n (length (rest 2 p))) (λ t. more_bytes past (ltb-true n (length (rest 2 p)) t))
          (λ g.
          let end = ltb-false n (length (rest 2 p)) g in
          absurd (other (ext_get_or 0 (rest 2 p) sent (omega (arith, s.within-expected, s.within-found)) (λ i h. s.same i (omega arith))))))

    -- it is the payload that was sent
    pub right_echo : 2 ≤ length p → get_or p 1 0 ≡ no_error → rest 2 p ≡ sent → as_echo ≡ response 2 (length (rest 2 p))
    right_echo two second e =
        whole_only two second (length sent)
        (record { within-expected = omega arith; within-found = rw e (omega arith); same = λ i h. rw e; differs = λ h k q. absurd (omega arith) })
        (omega arith) (rw e (omega arith))

pub ruleset echo_ways = (wrong_ack, wrong_error, other-echo, right_echo)
