-- What a read command reads is a cell, or the status, of which the item list and the model say the same.
-- Assumes nothing.
use Prim.Native.Nat.{ℕ, ◌%◌}
use mathlib.Core.Path.{◌≡◌, refl, sym, subst}
use mathlib.Core.Bool.{Bool, true, false, true≢false}
use mathlib.Core.List.{List, [], ◌∷◌}
use lib.Dec.{eqb}
use Rattle.logic.proofs.Choice.{by_cases}
use Rattle.refusal.specs.Refusal.{accepted as acceptedAs, item_not_served}
use Rattle.refusal.proofs.Results.{never_both}
use Rattle.cdi_item.specs.declared.Item.{Item}
use Rattle.cdi_item.specs.Items.{items, item_in, item_of}
use Rattle.cdi_item.specs.Bits.{event_flag}
use Rattle.cdi_item.specs.Values.{accepted_value}
use Rattle.cdi_item.proofs.Consistent.{found-row}
use Rattle.cdi_command.specs.declared.Index.{Index}
use Rattle.cdi_command.specs.declared.Index.TheVariants.{Slot, Input}
use Rattle.cdi_command.specs.declared.Command.{Command}
use Rattle.cdi_command.specs.declared.Command.TheVariants.{Read, ReadIndexed, ReadNv, ReadNvIndexed, Write, WriteIndexed, Program, ProgramIndexed, SetDefault, EraseAll}
use Rattle.cdi_command.specs.Payload.{Permitted, fits, WellFormed}
use Rattle.cdi_command.specs.Kind.{is_read}
use Rattle.cdi_command.proofs.Accepted.{slot_in_range, input_in_range}
use Rattle.cdi_state.specs.declared.ModuleState.{ModuleState}
use Rattle.cdi_value.specs.Value.{value_read}
use Rattle.cdi_model.specs.Cells.{nv, Cell, copy_of, single, read_copy, is_cell}
use Rattle.cdi_model.specs.Values.{byte_of, accepted_flags}
use Rattle.cdi_model.specs.Action.{Source, held, one, status, source_of, row_of, read_from, read_nv_from, action_of}
use Rattle.cdi_model.specs.Model.{shown as shownOf, status_of, action_value}
use Rattle.cdi_model.proofs.Keys.{is_source, row_named, source_there}
use Rattle.cdi_model.proofs.Checked.{read_cell}
use Rattle.cdi_model.proofs.Validity.{takes}
use Rattle.cdi_module.specs.Machine.{cells}
use Rattle.cdi_module.proofs.Shown.{name-agrees, value-agrees}
use Rattle.cdi_decode.specs.Follow.{is_held, value_item}
use Rattle.cdi_responses.specs.Held.{shown}
use Rattle.cdi_responses.proofs.Fit.{cell_length}

-- of some bytes as a value of an item: how many it has, whether they can be held, and what is shown of them
abbrev Agrees : Item → List ℕ → (size : ℕ) (ok : Bool) (shows : List ℕ) → Type 0
Agrees x w size ok shows = (x.length ≡ size) × (is_held x w ≡ ok) × (shown x w ≡ shows)

-- the item list says what the model says of a cell, ...
abbrev pub OnCell : Item → Cell → Type 0
OnCell x d = (w : List ℕ) → Agrees x w (cell_length d) (takes d w) (shownOf d w)

-- ... and of the status
abbrev pub OnStatus : Item → Type 0
OnStatus x = (w : List ℕ) → Agrees x w 4 (accepted_flags (byte_of w % event_flag)) w

abbrev OnSource : Item → Source → Type 0
OnSource x (held k) = OnCell x (copy_of nv k)
OnSource x (one y) = OnCell x (single y)
OnSource x status = OnStatus x

-- ---- an item without an index, item by item
-- R follows if P holds of each item of a list
abbrev FromEach : (Item → Type 0) → List Item → Type 0 → Type 0
FromEach P [] R = R
FromEach P (x ∷ xs) R = P x → FromEach P xs R

already : (P : Item → Type 0) (l : List Item) (R : Type 0) → R → FromEach P l R
already P [] R r = r
already P (x ∷ xs) R r = λ _. already P xs R r

-- P holds of an item that is found in a list if it holds of each
each : (P : Item → Type 0) (l : List Item) (code : ℕ) (x : Item) → item_in l code ≡ acceptedAs x → FromEach P l (P x)
unfolding item_in
each P [] code x e = never_both item_not_served x e
each P (y ∷ ys) code x e =
    by_cases (eqb y.code code)
    (λ q h. let same : y ≡ x = cc (simp q at e) in already P ys (P x) (subst P same h))
    (λ q _. each P ys code x (simp q at e))

abbrev PlainAgrees : Item → Type 0
PlainAgrees x = x.indexed ≡ false → OnSource x (source_of x.code)

plain-agrees : (x : Item) → item_of x.code ≡ acceptedAs x → PlainAgrees x
unfolding items item_of accepted_value
plain-agrees x listed =
    each PlainAgrees items x.code x listed
    (λ _ w. (refl, refl, name-agrees w))
    (λ _ w. (refl, refl, refl))
    (λ _ w. (refl, refl, refl))
    (λ _ w. (refl, refl, refl))
    (λ _ w. (refl, refl, refl))
    (λ _ w. (refl, refl, refl))
    (λ _ w. (refl, refl, refl))
    (λ _ w. (refl, refl, refl))
    (λ _ w. (refl, refl, refl))
    (λ f. absurd (true≢false f))
    (λ f. absurd (true≢false f))
    (λ _ w. (refl, refl, refl))
    (λ _ w. (refl, refl, refl))
    (λ _ w. (refl, refl, refl))
    (λ _ w. (refl, refl, refl))
    (λ _ w. (refl, refl, refl))
    (λ _ w. (refl, refl, refl))

-- ---- a row
row-agrees : (x : Item) (i : Index) (mark : ℕ) → Permitted x mark true → fits x i ≡ true → OnSource x (held (row_of i))
unfolding accepted_value
row-agrees x (Slot i) mark p e w = rw (found-row x.code x p.listed p.form, (slot_in_range x i e).0) (refl, refl, refl)
row-agrees x (Input n) mark p e w = rw (found-row x.code x p.listed p.form, (input_in_range x n e).0) (refl, refl, refl)

-- ---- a command
-- a read command reads a cell or the status
pub data ReadBy (c : Command) : Type 0 where
  from_cell : (d : Cell) → is_cell d ≡ true → OnCell (value_item c) d → ((s : ModuleState) → value_read s c ≡ shownOf d (cells s d)) → ReadBy c
  from-status : OnStatus (value_item c) → ((s : ModuleState) → value_read s c ≡ status_of (cells s)) → ReadBy c

module _ (c : Command) where
  by_read : (x : Source) → is_source x ≡ true → OnSource (value_item c) x
      → ((s : ModuleState) → value_read s c ≡ action_value (cells s) (read_from x)) → ReadBy c
  by_read (held k) there agrees value = from_cell (copy_of (read_copy k) k) (read_cell k there) agrees value
  by_read (one x) there agrees value = from_cell (single x) refl agrees value
  by_read status there agrees value = from-status agrees value

  by_read_nv : (x : Source) → is_source x ≡ true → OnSource (value_item c) x
      → ((s : ModuleState) → value_read s c ≡ action_value (cells s) (read_nv_from x)) → ReadBy c
  by_read_nv (held k) there agrees value = from_cell (copy_of nv k) there agrees value
  by_read_nv (one x) there agrees value = from_cell (single x) refl agrees value
  by_read_nv status there agrees value = from-status agrees value

pub read_by : (c : Command) → WellFormed c → is_read c ≡ true → ReadBy c
unfolding action_of
read_by (Read x) p r =
    by_read (Read x) (source_of x.code) (source_there x p.listed p.form) (plain-agrees x p.listed p.form) (λ s. value-agrees s (Read x) p)
read_by (ReadIndexed x i) (p, e) r =
    by_read (ReadIndexed x i) (held (row_of i)) (row_named x i e) (row-agrees x i _ p e) (λ s. value-agrees s (ReadIndexed x i) (p, e))
read_by (ReadNv x) p r =
    by_read_nv (ReadNv x) (source_of x.code) (source_there x p.listed p.form) (plain-agrees x p.listed p.form) (λ s. value-agrees s (ReadNv x) p)
read_by (ReadNvIndexed x i) (p, e) r =
    by_read_nv (ReadNvIndexed x i) (held (row_of i)) (row_named x i e) (row-agrees x i _ p e) (λ s. value-agrees s (ReadNvIndexed x i) (p, e))
read_by (Write x v) p r = absurd (true≢false (sym r))
read_by (WriteIndexed x i v) p r = absurd (true≢false (sym r))
read_by (Program x v) p r = absurd (true≢false (sym r))
read_by (ProgramIndexed x i v) p r = absurd (true≢false (sym r))
read_by SetDefault p r = absurd (true≢false (sym r))
read_by EraseAll p r = absurd (true≢false (sym r))
