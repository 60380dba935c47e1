-- A value that is read has the length that the item list says, a name at most that.
-- Assumes nothing.
use Prim.Native.Nat.{ℕ, suc, ◌-◌, ◌≤◌}
use mathlib.Core.Path.{◌≡◌, refl, sym, ◌∙◌}
use mathlib.Core.Bool.{Bool, true, false, cond, ◌||◌}
use mathlib.Core.List.{List, [], ◌∷◌}
use native.Mathlib.Omega.{arith}
use borrow.Author.Tests.{eqb-true, lt-ltb, le-leb}
use lib.Dec.{eqb}
use lib.ListN.{length, get_or, length-append, length-take, length-drop}
use Rattle.logic.specs.Lists.{all}
use Rattle.logic.proofs.Choice.{choice, by_cases}
use Rattle.refusal.specs.Refusal.{accepted}
use Rattle.cdi_item.specs.declared.Item.{Item}
use Rattle.cdi_item.specs.Items as item
use Rattle.cdi_item.proofs.Consistent.{found, found-row}
use Rattle.cdi_command.specs.declared.Index.{Index}
use Rattle.cdi_command.specs.declared.Index.TheVariants.{Slot, Input}
use Rattle.cdi_command.specs.declared.Command.{Command}
use Rattle.cdi_command.specs.declared.Command.TheVariants.{Read, ReadIndexed, ReadNv, ReadNvIndexed, Write, WriteIndexed, Program, ProgramIndexed, SetDefault, EraseAll}
use Rattle.cdi_command.specs.Payload.{Permitted, fits, WellFormed}
use Rattle.cdi_command.proofs.Accepted.{slot_in_range, input_in_range}
use Rattle.cdi_state.specs.declared.Settings.{Settings}
use Rattle.cdi_state.specs.declared.ModuleState.{ModuleState}
use Rattle.cdi_state.specs.State.{OffsetLengths, FieldLengths, no_slot, default_settings}
use Rattle.cdi_value.specs.Value.{setting_value, name_shown, status_shown, plain_value, row_value, value_read}
use Rattle.cdi_value.proofs.Values.{input-at}

-- a value's length is the item's; a name's is at most that
pub record OfLength (x : Item) (value : List ℕ) : Type 0 where
  pub within : length value ≤ x.length
  pub whole : eqb x.code item.name ≡ false → length value ≡ x.length

-- what a command reads: a read its item's value, any other command nothing
abbrev pub ReadsItem : Command → List ℕ → Type 0
ReadsItem (Read x) v = OfLength x v
ReadsItem (ReadIndexed x i) v = OfLength x v
ReadsItem (ReadNv x) v = OfLength x v
ReadsItem (ReadNvIndexed x i) v = OfLength x v
ReadsItem (Write x w) v = v ≡ []
ReadsItem (WriteIndexed x i w) v = v ≡ []
ReadsItem (Program x w) v = v ≡ []
ReadsItem (ProgramIndexed x i w) v = v ≡ []
ReadsItem SetDefault v = v ≡ []
ReadsItem EraseAll v = v ≡ []

-- the lengths of the values of the items that have no index, by their codes
abbrev plain_length : ℕ → ℕ
plain_length code =
    cond (eqb code item.name) 17
    (cond (eqb code item.firmware) 3
    (cond (eqb code item.serial) 4
    (cond (eqb code item.address) 4
    (cond (eqb code item.lines) 2
    (cond (eqb code item.rssi) 2
    (cond (eqb code item.ladj) 1
    (cond (eqb code item.status) 4
    (cond (eqb code item.events) 1 (length (setting_value default_settings code))))))))))

abbrev length_right : Item → Bool
length_right x = x.indexed || eqb x.length (plain_length x.code)

lengths-right : all length_right item.items ≡ true
unfolding item.items setting_value
lengths-right = refl

plain-item : (x : Item) → item.item_of x.code ≡ accepted x → x.indexed ≡ false → x.length ≡ plain_length x.code
plain-item x listed form = eqb-true x.length (plain_length x.code) (rw form at (found length_right lengths-right x.code x listed).0)

-- a setting has its byte in every copy
setting-length : (t u : Settings) (code : ℕ) → length (setting_value t code) ≡ length (setting_value u code)
unfolding setting_value
setting-length t u code = simp (length-take, length-drop)

choice-length : (t : Bool) (a b : List ℕ) (m n : ℕ) → length a ≡ m → length b ≡ n → length (cond t a b) ≡ cond t m n
choice-length true a b m n p q = p
choice-length false a b m n p q = q

shown-short : (l : List ℕ) → length (name_shown l) ≤ length l
unfolding name_shown
shown-short [] = omega arith
shown-short (b ∷ bs) =
    choice (λ (v : List ℕ). length v ≤ suc (length bs)) (eqb b 0) (λ _. omega arith) (λ _. omega (arith, shown-short bs))

module _ (s : ModuleState) (f : FieldLengths s) where
  plain-length : (t : Settings) (code : ℕ) → eqb code item.name ≡ false → length (plain_value s t code) ≡ plain_length code
  unfolding plain_value status_shown
  plain-length t code e =
      rw e
      (choice-length (eqb code item.firmware) _ _ _ _ f.stored-lengths.firmware-length
      (choice-length (eqb code item.serial) _ _ _ _ f.stored-lengths.serial-length
      (choice-length (eqb code item.address) _ _ _ _ f.stored-lengths.address-length
      (choice-length (eqb code item.lines) _ _ _ _ f.lines-length
      (choice-length (eqb code item.rssi) _ _ _ _ f.rssi-length
      (choice-length (eqb code item.ladj) _ _ _ _ refl
      (choice-length (eqb code item.status) _ _ _ _ refl (choice-length (eqb code item.events) _ _ _ _ refl (setting-length t default_settings code)))))))))

  name-within : (t : Settings) (code : ℕ) → eqb code item.name ≡ true → length (plain_value s t code) ≤ 17
  unfolding plain_value
  name-within t code e = rw e (omega (arith, shown-short s.stored.name, f.stored-lengths.name-length))

  plain_of_length : (t : Settings) (x : Item) (mark : ℕ) → Permitted x mark false → OfLength x (plain_value s t x.code)
  plain_of_length t x mark w =
      let e = plain-item x w.listed w.form in
      record {
        within =
            by_cases (eqb x.code item.name)
            (λ n. omega (arith, name-within t x.code n, e ∙ named x.code n))
            (λ n. omega (arith, plain-length t x.code n, e));
        whole = λ n. plain-length t x.code n ∙ sym e;
      }
    where
      named : (code : ℕ) → eqb code item.name ≡ true → plain_length code ≡ 17
      named code n = rw n

  row-length : (t : Settings) → OffsetLengths t
      → (x : Item) (i : Index) → fits x i ≡ true → length (row_value s.stored t i) ≡ 5
  row-length t offsets x (Slot i) h =
      let a = get_or s.stored.slots i.0 no_slot in
      let r = slot_in_range x i h in
      rw (lt-ltb i.0 40 r.1) (omega (arith, length-append a.address (a.mask ∷ []), f.stored-lengths.slot_address_length i.0 r.1))
  row-length t offsets x (Input n) h =
      let r = input_in_range x n h in
      rw (le-leb 1 n.0 r.1, le-leb n.0 2 r.2, input-at t n.0 r.1) (omega (arith, offsets (n.0 - 1) (omega (arith, r.1, r.2))))

  row_of-length : (t : Settings) → OffsetLengths t
      → (x : Item) (i : Index) (mark : ℕ) → Permitted x mark true → fits x i ≡ true → OfLength x (row_value s.stored t i)
  row_of-length t offsets x i mark w h =
      let e = row-length t offsets x i h in
      let five = found-row x.code x w.listed w.form in
      record { within = omega arith; whole = λ _. e ∙ sym five }

  -- what a well-formed command reads of a state is its item's value, in the item's length
  pub value-length : (c : Command) → WellFormed c → ReadsItem c (value_read s c)
  value-length (Read x) w = plain_of_length s.working.settings x _ w
  value-length (ReadIndexed x i) w = row_of-length s.working.settings f.working_offset_length x i _ w.0 w.1
  value-length (ReadNv x) w = plain_of_length s.stored.settings x _ w
  value-length (ReadNvIndexed x i) w = row_of-length s.stored.settings f.stored-lengths.offset_length x i _ w.0 w.1
  value-length (Write x v) w = refl
  value-length (WriteIndexed x i v) w = refl
  value-length (Program x v) w = refl
  value-length (ProgramIndexed x i v) w = refl
  value-length SetDefault w = refl
  value-length EraseAll w = refl
