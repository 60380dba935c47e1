-- Every command that a payload is parsed into is one that the item list has, and is written as that payload.
-- Assumes nothing.
use Prim.Native.Nat.{ℕ, ◌+◌, ◌≤◌}
use mathlib.Core.Path.{◌≡◌, refl, sym, ap, ◌∙◌}
use mathlib.Core.List.{List, [], ◌∷◌}
use mathlib.Core.Bool.{Bool, true, false, cond, not}
use native.Mathlib.Omega.{arith}
use borrow.Author.Tests.{eqb-true, not-true, not-false}
use lib.Dec.{eqb}
use lib.ListN.{length, get_or, take}
use Rattle.logic.proofs.Choice.{choice, by_cases}
use Rattle.refusal.specs.Refusal.{Result, accepted, refused, and_then}
use Rattle.refusal.proofs.Results.{Holds, of_accepted}
use Rattle.cdi_item.specs.declared.Item.{Item}
use Rattle.cdi_item.specs.Items.{analog_input, paired_module, item_of, permitted}
use Rattle.cdi_item.specs.Values.{value_bytes}
use Rattle.cdi_item.proofs.Consistent.{found_code, found-listed, found_programmable, found-short, found_indexed}
use Rattle.cdi_command.specs.declared.Index.{Index}
use Rattle.cdi_command.specs.declared.Index.TheVariants.{Slot, Input}
use Rattle.cdi_command.specs.declared.Command.{Command}
use Rattle.cdi_command.specs.declared.Command.TheVariants.{SetDefault, EraseAll}
use Rattle.cdi_command.specs.Command.{read, write, read_nv, program, set_default, erase_all, mark_of, expected_length, value_of, takes_index, select, plain_command, indexed_command, command_on, parse_item, has_no_item, is_served, is_head_length_right, parse_payload}
use Rattle.cdi_command.specs.Payload.{index_byte, command_payload, Permitted, fits, Listed}
use Rattle.cdi_command.proofs.Bytes.{value-rest, two_and_rest, three_and_rest}

abbrev Good : List ℕ → Command → Type 0
Good s c = Listed c × (command_payload c ≡ s)

-- a served code that is none of the other three is Program's
is_program : (code : ℕ) → eqb (mark_of code) 0 ≡ false → eqb code read ≡ false → eqb code read_nv ≡ false → eqb code write ≡ false → code ≡ program
is_program code served a b c = by_cases (eqb code program) (eqb-true code program) (λ d. cc (simp (a, b, c, d) at served))

-- what holds of the command that the code names holds of the selection
select-holds : (Q : Command → Type 0) (code : ℕ) {r n w p : Command} → eqb (mark_of code) 0 ≡ false
    → (code ≡ read → Q r) → (code ≡ read_nv → Q n) → (code ≡ write → Q w) → (code ≡ program → Q p) → Q (select code r n w p)
unfolding select
select-holds Q code served hr hn hw hp =
    choice Q (eqb code read) (λ e. hr (eqb-true code read e))
    (λ a. choice Q (eqb code read_nv) (λ e. hn (eqb-true code read_nv e))
    (λ b. choice Q (eqb code write) (λ e. hw (eqb-true code write e)) (λ c. hp (is_program code served a b c))))

module _ (s : List ℕ) (x : Item) (listed : item_of x.code ≡ accepted x) (names : get_or s 1 0 ≡ x.code)
    (served : eqb (mark_of (get_or s 0 0)) 0 ≡ false) (permits : permitted x (mark_of (get_or s 0 0)) ≡ true)
    (long : length s ≡ expected_length x (get_or s 0 0)) (index : takes_index x (get_or s 2 0) ≡ true) where
  permitted_as : (indexed : Bool) (code : ℕ) → x.indexed ≡ indexed → get_or s 0 0 ≡ code → Permitted x (mark_of code) indexed
  permitted_as indexed code f e = record { listed = listed; permits = rw e at permits; form = f }

  -- what stores has a value of 5 bytes at most
  write-short : get_or s 0 0 ≡ write → x.length ≤ 5
  write-short e = found-short x.code x listed (found_programmable x.code x listed (rw e at permits))

  program-short : get_or s 0 0 ≡ program → x.length ≤ 5
  program-short e = found-short x.code x listed (rw e at permits)

  module _ (f : x.indexed ≡ false) where
    plain-bytes : (code n : ℕ) → get_or s 0 0 ≡ code → length s ≡ 2 + n → n ≤ 5 → code ∷ x.code ∷ take n (value_bytes (value_of x s)) ≡ s
    plain-bytes code n e l h = rw (f, ← e, ← names, value-rest s 2 n l h) (two_and_rest s (omega arith))

    plain_good : Good s (plain_command x (get_or s 0 0) (value_of x s))
    plain_good =
        select-holds (Good s) (get_or s 0 0) served
        (λ e. (permitted_as false read f e, plain-bytes read 0 e (rw (e, f) at long) (omega arith)))
        (λ e. (permitted_as false read_nv f e, plain-bytes read_nv 0 e (rw (e, f) at long) (omega arith)))
        (λ e. ((permitted_as false write f e, tt), plain-bytes write x.length e (rw (e, f) at long) (write-short e)))
        (λ e. ((permitted_as false program f e, tt), plain-bytes program x.length e (rw (e, f) at long) (program-short e)))

  module _ (t : x.indexed ≡ true) where
    indexed_bytes : (code n : ℕ) → get_or s 0 0 ≡ code → length s ≡ 3 + n → n ≤ 5 → code ∷ x.code ∷ get_or s 2 0 ∷ take n (value_bytes (value_of x s)) ≡ s
    indexed_bytes code n e l h = rw (t, ← e, ← names, value-rest s 3 n l h) (three_and_rest s (omega arith))

    indexed_good : (i : Index) → fits x i ≡ true → index_byte i ≡ get_or s 2 0 → Good s (indexed_command x (get_or s 0 0) (value_of x s) i)
    indexed_good i h b =
        select-holds (Good s) (get_or s 0 0) served
        (λ e. ((permitted_as true read t e, h), rw b (indexed_bytes read 0 e (rw (e, t) at long) (omega arith))))
        (λ e. ((permitted_as true read_nv t e, h), rw b (indexed_bytes read_nv 0 e (rw (e, t) at long) (omega arith))))
        (λ e. ((permitted_as true write t e, h, tt), rw b (indexed_bytes write x.length e (rw (e, t) at long) (write-short e))))
        (λ e. ((permitted_as true program t e, h, tt), rw b (indexed_bytes program x.length e (rw (e, t) at long) (program-short e))))

    -- the row is an input of item 16, or a slot of 18, which is the other indexed item
    row_good : (is-input : Bool) → eqb x.code analog_input ≡ is-input → Good s (indexed_command x (get_or s 0 0) (value_of x s) (cond is-input (Input (record { 0 = get_or s 2 0 })) (Slot (record { 0 = get_or s 2 0 }))))
    row_good true e = indexed_good (Input (record { 0 = get_or s 2 0 })) (rw (e, simp (t, e) at index)) refl
    row_good false e =
        let paired : eqb x.code paired_module ≡ true = sym (simp e at (found_indexed x.code x listed)) ∙ t in
        indexed_good (Slot (record { 0 = get_or s 2 0 })) (rw (paired, simp (t, e) at index)) refl

  command_good : Good s (command_on x (get_or s 0 0) (value_of x s) (get_or s 2 0))
  unfolding command_on
  command_good = choice (Good s) x.indexed (λ t. row_good t (eqb x.code analog_input) refl) plain_good

module _ (s : List ℕ) (served : eqb (mark_of (get_or s 0 0)) 0 ≡ false) where
  item_good : (x : Item) → item_of (get_or s 1 0) ≡ accepted x → Holds (Good s) (parse_item (get_or s 0 0) s x)
  unfolding parse_item
  item_good x is =
      choice (Holds (Good s)) (not (permitted x (mark_of (get_or s 0 0)))) (λ _. tt)
      (λ p. choice (Holds (Good s)) (not (eqb (length s) (expected_length x (get_or s 0 0)))) (λ _. tt)
      (λ l. choice (Holds (Good s)) (not (takes_index x (get_or s 2 0))) (λ _. tt)
      (λ i. command_good s x (found-listed (get_or s 1 0) x is) (sym (found_code (get_or s 1 0) x is)) served
      (not-false _ p) (eqb-true (length s) (expected_length x (get_or s 0 0)) (not-false _ l)) (not-false _ i))))

  found_good : (r : Result Item) → item_of (get_or s 1 0) ≡ r → Holds (Good s) (and_then r (parse_item (get_or s 0 0) s))
  found_good (accepted x) is = item_good x is
  found_good (refused n) is = tt

-- the payload of a command about no item is its code
bare_good : (s : List ℕ) (code : ℕ) (c : Command) → has_no_item code ≡ true → Listed c → command_payload c ≡ code ∷ []
    → is_head_length_right (get_or s 0 0) (length s) ≡ true → get_or s 0 0 ≡ code → Good s c
unfolding is_head_length_right
bare_good s code c no_item w p right e = (w, p ∙ alone s (eqb-true (length s) 1 (simp (e, no_item) at right)) e)
  where
    alone : (s : List ℕ) → length s ≡ 1 → get_or s 0 0 ≡ code → code ∷ [] ≡ s
    alone [] l q = absurd (omega arith)
    alone (a ∷ []) l q = ap (λ (b : ℕ). b ∷ []) (sym q)
    alone (a ∷ b ∷ t) l q = absurd (omega arith)

-- a served command that is about an item has a mark
has-mark : (code : ℕ) → is_served code ≡ true → eqb code set_default ≡ false → eqb code erase_all ≡ false → eqb (mark_of code) 0 ≡ false
unfolding is_served
has-mark code served a b = not-true _ (simp (a, b) at served)

every_good : (s : List ℕ) → Holds (Good s) (parse_payload s)
unfolding parse_payload
every_good s =
    let code = get_or s 0 0 in
    choice (Holds (Good s)) (eqb (length s) 0) (λ _. tt)
    (λ _. choice (Holds (Good s)) (not (is_served code)) (λ _. tt)
    (λ served. choice (Holds (Good s)) (not (is_head_length_right code (length s))) (λ _. tt)
    (λ right. choice (Holds (Good s)) (eqb code set_default) (λ e. bare_good s set_default SetDefault refl tt refl (not-false _ right) (eqb-true code set_default e))
    (λ a. choice (Holds (Good s)) (eqb code erase_all) (λ e. bare_good s erase_all EraseAll refl tt refl (not-false _ right) (eqb-true code erase_all e))
    (λ b. found_good s (has-mark code (not-false _ served) a b) (item_of (get_or s 1 0)) refl)))))

module _ (s : List ℕ) (c : Command) (is : parse_payload s ≡ accepted c) where
  -- a parsed command is one that the item list has: its item, its permission and its index in range
  pub parsed-listed : Listed c
  parsed-listed = (of_accepted (Good s) is (every_good s)).0

  -- a parsed payload is its command's: its code, item, index and value, and nothing else
  pub parsed-payload : command_payload c ≡ s
  parsed-payload = (of_accepted (Good s) is (every_good s)).1
