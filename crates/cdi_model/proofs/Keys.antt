-- The item list, told in the model's keys, by one computation over the whole of it.
-- Assumes nothing.
use Prim.Native.Nat.{ℕ}
use mathlib.Core.Path.{◌≡◌, refl, sym, ◌∙◌}
use mathlib.Core.Bool.{Bool, true, false, cond, not, ◌&&◌, ◌||◌, and-eq-true_iff}
use borrow.Author.Tests.{eqb-true}
use lib.Dec.{eqb}
use Rattle.logic.specs.Lists.{all}
use Rattle.logic.proofs.Choice.{implied}
use Rattle.refusal.specs.Refusal.{accepted}
use Rattle.cdi_item.specs.declared.Item.{Item}
use Rattle.cdi_item.specs.Items as item
use Rattle.cdi_item.specs.Items.{W, P, items, item_of, permitted}
use Rattle.cdi_item.proofs.Consistent.{found}
use Rattle.cdi_command.specs.declared.Index.{Index}
use Rattle.cdi_command.specs.declared.Index.TheVariants.{Slot, Input}
use Rattle.cdi_command.specs.Payload.{fits}
use Rattle.cdi_command.proofs.Accepted.{slot_in_range}
use Rattle.cdi_model.specs.Cells.{Key, setting, input, slot, address, has_working, is_key}
use Rattle.cdi_model.specs.Action.{Source, held, one, status, key_of, source_of, row_of}

-- the bytes of a key's value
abbrev pub width : Key → ℕ
width (setting s) = 1
width (input n) = 5
width (slot i) = 5
width address = 4

-- what is read from is there
abbrev pub is_source : Source → Bool
is_source (held k) = is_key k
is_source (one x) = true
is_source status = true

-- an index that fits names a key that there is
pub row_named : (x : Item) (i : Index) → fits x i ≡ true → is_key (row_of i) ≡ true
row_named x (Slot i) e = ((and-eq-true_iff (eqb x.code item.paired_module) (is_key (slot i.0))).0 e).1
row_named x (Input n) e = ((and-eq-true_iff (eqb x.code item.analog_input) (is_key (input n.0))).0 e).1

-- every row has five bytes
pub row-width : (i : Index) → width (row_of i) ≡ 5
row-width (Slot i) = refl
row-width (Input n) = refl

-- an item without an index has a source that is there; what Program takes has a key that is there, of its length; what Write takes has
-- a working copy, and is no slot
abbrev keyed : Item → Bool
keyed x =
    (x.indexed || is_source (source_of x.code)) &&
    ((not (permitted x P) || (x.indexed || (is_key (key_of x.code) && eqb x.length (width (key_of x.code))))) &&
    (not (permitted x W) || cond x.indexed (eqb x.code item.analog_input) (has_working (key_of x.code))))

items-keyed : all keyed items ≡ true
unfolding items
items-keyed = refl

module _ (x : Item) (listed : item_of x.code ≡ accepted x) where
  parts : (x.indexed || is_source (source_of x.code) ≡ true)
      × (not (permitted x P) || (x.indexed || (is_key (key_of x.code) && eqb x.length (width (key_of x.code)))) ≡ true)
      × (not (permitted x W) || cond x.indexed (eqb x.code item.analog_input) (has_working (key_of x.code)) ≡ true)
  parts =
      let p1 = (and-eq-true_iff _ _).0 (found keyed items-keyed x.code x listed).0 in
      let p2 = (and-eq-true_iff _ _).0 p1.1 in
      (p1.0, p2.0, p2.1)

  -- what an item without an index is read from is there
  pub source_there : x.indexed ≡ false → is_source (source_of x.code) ≡ true
  source_there f = rw f at parts.0

  -- what Program takes has a key that is there, whose values have the item's length
  programmed_key : permitted x P ≡ true → x.indexed ≡ false → (is_key (key_of x.code) ≡ true) × (eqb x.length (width (key_of x.code)) ≡ true)
  programmed_key p f = (and-eq-true_iff _ _).0 (rw f at (implied _ _ parts.1 p))

  pub key_there : permitted x P ≡ true → x.indexed ≡ false → is_key (key_of x.code) ≡ true
  key_there p f = (programmed_key p f).0

  pub key_width : permitted x P ≡ true → x.indexed ≡ false → x.length ≡ width (key_of x.code)
  key_width p f = eqb-true x.length (width (key_of x.code)) (programmed_key p f).1

  -- what Write takes has a working copy, ...
  pub plain_writable : permitted x W ≡ true → x.indexed ≡ false → has_working (key_of x.code) ≡ true
  plain_writable w f = rw f at (implied _ _ parts.2 w)

  -- ... also as a row: no slot is written
  pub row_writable : (i : Index) → permitted x W ≡ true → x.indexed ≡ true → fits x i ≡ true → has_working (row_of i) ≡ true
  row_writable (Slot i) w t e = sym (rw (slot_in_range x i e).0) ∙ rw t at (implied _ _ parts.2 w)
  row_writable (Input n) w t e = refl
