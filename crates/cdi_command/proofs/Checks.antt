-- What is left of the definitions after each check.
-- Assumes nothing.
use Prim.Native.Nat.{ℕ}
use mathlib.Core.Path.{◌≡◌, refl, sym}
use mathlib.Core.Bool.{Bool, true, false, cond, ◌||◌}
use mathlib.Core.List.{List}
use native.Mathlib.Omega.{arith}
use borrow.Author.Tests.{ne_eqb}
use lib.Dec.{eqb, ltb}
use lib.ListN.{length}
use Rattle.std.specs.Prelude.{Some}
use Rattle.std.specs.List.{slice_get}
use Rattle.std.proofs.lemmas.Option.{slice_get_within, get_or_from_slice_get}
use Rattle.logic.proofs.Choice.{by_cases, neither}
use Rattle.refusal.specs.Refusal.{Result, accepted, refused, and_then, command_not_served, wrong_length}
use Rattle.cdi_item.specs.declared.Item.{Item}
use Rattle.cdi_item.specs.declared.Value.{Value}
use Rattle.cdi_item.specs.Items.{item_of}
use Rattle.cdi_item.specs.Values.{value_bytes, accepted_value}
use Rattle.cdi_command.specs.declared.Command.{Command}
use Rattle.cdi_command.specs.declared.Command.TheVariants.{SetDefault, EraseAll}
use Rattle.cdi_command.specs.Command.{read, read_nv, write, set_default, erase_all, payload_code, payload_item, has_no_item, mark_of, is_served, is_head_length_right, select, command_on, parse_item, parse_payload, accepts_value, validate_value}
use Rattle.cdi_command.specs.Check.{is_read_code, bare_command}

-- the definition, where the command is about no item ...
either_code : (a b : Bool) → a || b ≡ true → (r : Result Command)
    → cond a (accepted SetDefault) (cond b (accepted EraseAll) r) ≡ accepted (cond a SetDefault EraseAll)
either_code true b h r = refl
either_code false b h r = rw h

module _ (s : List ℕ) (code : ℕ) (first : slice_get s 0 ≡ Some code) where
  code-is : payload_code s ≡ code
  code-is = get_or_from_slice_get s 0 code 0 first

  some : length s ≡ 0 → ⊥
  some e = absurd (omega (arith, slice_get_within s 0 code first))

  pub on_bare : has_no_item code ≡ true
      → parse_payload s ≡ cond (eqb (length s) 1) (accepted (bare_command (payload_code s))) (refused wrong_length)
  unfolding parse_payload is_served is_head_length_right
  on_bare h =
      rw (ne_eqb (length s) 0 some, code-is, h)
      (by_cases (eqb (length s) 1) (λ l. rw l (either_code (eqb code set_default) (eqb code erase_all) h _)) (λ l. rw l))

  -- ... and where it is about one
  pub on-item : has_no_item code ≡ false
      → parse_payload s ≡
      cond (eqb (mark_of code) 0) (refused command_not_served)
      (cond (ltb 1 (length s)) (and_then (item_of (payload_item s)) (parse_item (payload_code s) s)) (refused wrong_length))
  unfolding parse_payload is_served is_head_length_right
  on-item h =
      let codes = neither (eqb code set_default) (eqb code erase_all) h in
      simp (ne_eqb (length s) 0 some, code-is, codes.0, codes.1)
      (by_cases (eqb (mark_of code) 0) (λ m. rw m) (λ m. rw m (by_cases (ltb 1 (length s)) (λ l. rw l) (λ l. rw l))))

  -- the item is looked up once the code is served and the item is there
  pub looked_up : (item m : ℕ) → has_no_item code ≡ false → m ≡ mark_of code → (m ≡ 0 → ⊥) → ltb 1 (length s) ≡ true → payload_item s ≡ item
      → parse_payload s ≡ and_then (item_of item) (parse_item (payload_code s) s)
  looked_up item m h is some l e = simp (sym is, ne_eqb m 0 some, l, e) at (on-item h)

-- a command about no item carries no value, ...
pub bare_accepted : (code : ℕ) → validate_value (bare_command code) ≡ accepted (bare_command code)
bare_accepted code = by_cases (eqb code set_default) (λ t. rw t) (λ f. rw f)

-- ... nor does a read; any other command on an item does
module _ (item : Item) (code : ℕ) (v : Value) (byte : ℕ) where
  pub read-accepted : is_read_code code ≡ true → accepts_value (command_on item code v byte) ≡ true
  unfolding command_on select
  read-accepted h =
      by_cases item.indexed
      (λ i. rw i (by_cases (eqb code read) (λ t. rw t) (λ f. rw (f, rw f at h))))
      (λ i. rw i (by_cases (eqb code read) (λ t. rw t) (λ f. rw (f, rw f at h))))

  pub value-accepted : is_read_code code ≡ false → accepts_value (command_on item code v byte) ≡ accepted_value item.code (value_bytes v)
  unfolding command_on select
  value-accepted h =
      let p = neither (eqb code read) (eqb code read_nv) h in
      by_cases item.indexed
      (λ i. rw (i, p.0, p.1) (by_cases (eqb code write) (λ t. rw t) (λ f. rw f)))
      (λ i. rw (i, p.0, p.1) (by_cases (eqb code write) (λ t. rw t) (λ f. rw f)))
