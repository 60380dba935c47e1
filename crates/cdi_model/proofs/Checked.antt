-- What is true of the action of every accepted command: it names cells that there are, and what it stores is a value of the key's own
-- length that the key accepts.
-- Assumes nothing.
use Prim.Native.Nat.{ℕ}
use mathlib.Core.Path.{◌≡◌, refl, sym, ◌∙◌}
use mathlib.Core.Bool.{true, false, and-eq-true_iff}
use mathlib.Core.List.{List}
use native.Mathlib.Nat.{min-eq_left}
use lib.Dec.{ltb}
use lib.ListN.{length, length-take}
use Rattle.logic.proofs.Choice.{choice}
use Rattle.refusal.specs.Refusal.{Result, accepted as acceptedAs, refused}
use Rattle.cdi_frame.specs.declared.Span.{Span}
use Rattle.cdi_frame.specs.Frame.{command_wake_limit, read_frame, payload_in}
use Rattle.cdi_item.specs.declared.Item.{Item}
use Rattle.cdi_item.specs.declared.Value.{Value}
use Rattle.cdi_item.specs.Items.{P, item_of, permitted}
use Rattle.cdi_item.specs.Values.{value_bytes, accepted_value}
use Rattle.cdi_item.proofs.Consistent.{found_programmable, found-row, found-short}
use Rattle.cdi_item.proofs.Trimmed.{accepted-trimmed}
use Rattle.cdi_command.specs.declared.Index.{Index}
use Rattle.cdi_command.specs.declared.Command.{Command}
use Rattle.cdi_command.specs.declared.Command.TheVariants.{Read, ReadIndexed, ReadNv, ReadNvIndexed, Write, WriteIndexed, Program, ProgramIndexed, SetDefault, EraseAll}
use Rattle.cdi_command.specs.Command.{validate_payload}
use Rattle.cdi_command.specs.Payload.{value_in, fits, WellFormed, response_buffer_min}
use Rattle.cdi_command.proofs.Accepted.{accepted_well_formed}
use Rattle.cdi_model.specs.Cells.{Key, setting, input, slot, address, copy_of, has_working, read_copy, is_key, is_cell}
use Rattle.cdi_model.specs.Values.{accepted}
use Rattle.cdi_model.specs.Step.{Step, power_up, command}
use Rattle.cdi_model.specs.Action.{Source, held, one, status, Action, read, read_nv, read_status, write, program, set_default, erase_all, key_of, source_of, row_of, read_from, read_nv_from, action_of}
use Rattle.cdi_model.specs.Table.{Decision, refuse, execute, execute_power_up}
use Rattle.cdi_model.specs.Model.{Cells, is_valid, decide, decide_block, decide_frame, decide_payload, decide_command}
pub use Rattle.cdi_model.proofs.Keys.{width}
use Rattle.cdi_model.proofs.Keys.{is_source, row_named, row-width, source_there, key_there, key_width, plain_writable, row_writable}
use Rattle.cdi_model.proofs.Values.{plain-agrees, row-agrees}

-- a key that there is, with a value of its length that it accepts
pub record Storable (k : Key) (v : List ℕ) : Type 0 where
  pub named : is_key k ≡ true
  pub sized : length v ≡ width k
  pub valued : accepted k v ≡ true

-- what every accepted action has passed; Write takes no key without a working copy
abbrev pub Checked : Action → Type 0
Checked (read c) = is_cell c ≡ true
Checked (read_nv c) = is_cell c ≡ true
Checked read_status = Unit {0}
Checked (write k v) = Storable k v × (has_working k ≡ true)
Checked (program k v) = Storable k v
Checked set_default = Unit {0}
Checked erase_all = Unit {0}

-- ---- reads
-- the copy that Read gives is a cell
pub read_cell : (k : Key) → is_key k ≡ true → is_cell (copy_of (read_copy k) k) ≡ true
read_cell (setting s) e = refl
read_cell (input n) e = (and-eq-true_iff _ _).1 (e, refl)
read_cell (slot i) e = e
read_cell address e = refl

-- a Read of what is there is checked, ...
read-checked : (x : Source) → is_source x ≡ true → Checked (read_from x)
read-checked (held k) e = read_cell k e
read-checked (one x) e = refl
read-checked status e = tt

-- ... and so is a Read NV
read_nv-checked : (x : Source) → is_source x ≡ true → Checked (read_nv_from x)
read_nv-checked (held k) e = e
read_nv-checked (one x) e = refl
read_nv-checked status e = tt

-- ---- stores
module _ (x : Item) (listed : item_of x.code ≡ acceptedAs x) where
  -- a value has its item's length
  value-length : (v : Value) → permitted x P ≡ true → length (value_in x v) ≡ x.length
  value-length v p = length-take x.length (value_bytes v) ∙ min-eq_left (found-short x.code x listed p)

  -- what Program takes on an item without an index can be stored under its key, ...
  plain_storable : (v : Value) → permitted x P ≡ true → x.indexed ≡ false → accepted_value x.code (value_bytes v) ≡ true
      → Storable (key_of x.code) (value_in x v)
  plain_storable v p f a = record {
    named = key_there x listed p f;
    sized = value-length v p ∙ key_width x listed p f;
    valued = plain-agrees x.code (value_in x v) (key_there x listed p f) ∙ accepted-trimmed x v listed ∙ a;
  }

  -- ... and what it takes on a row under the row's
  row_storable : (i : Index) (v : Value) → permitted x P ≡ true → x.indexed ≡ true → fits x i ≡ true
      → accepted_value x.code (value_bytes v) ≡ true → Storable (row_of i) (value_in x v)
  row_storable i v p t e a = record {
    named = row_named x i e;
    sized = value-length v p ∙ found-row x.code x listed t ∙ sym (row-width i);
    valued = row-agrees x i (value_in x v) e ∙ accepted-trimmed x v listed ∙ a;
  }

-- the action of a command that the item list has is checked
well_formed_checked : (c : Command) → WellFormed c → Checked (action_of c)
unfolding action_of
well_formed_checked (Read x) p = read-checked (source_of x.code) (source_there x p.listed p.form)
well_formed_checked (ReadIndexed x i) (p, e) = read-checked (held (row_of i)) (row_named x i e)
well_formed_checked (ReadNv x) p = read_nv-checked (source_of x.code) (source_there x p.listed p.form)
well_formed_checked (ReadNvIndexed x i) (p, e) = read_nv-checked (held (row_of i)) (row_named x i e)
well_formed_checked (Write x v) (p, a) =
    let programmable = found_programmable x.code x p.listed p.permits in
    (plain_storable x p.listed v programmable p.form a, plain_writable x p.listed p.permits p.form)
well_formed_checked (WriteIndexed x i v) (p, e, a) =
    let programmable = found_programmable x.code x p.listed p.permits in
    (row_storable x p.listed i v programmable p.form e a, row_writable x p.listed i p.permits p.form e)
well_formed_checked (Program x v) (p, a) = plain_storable x p.listed v p.permits p.form a
well_formed_checked (ProgramIndexed x i v) (p, e, a) = row_storable x p.listed i v p.permits p.form e a
well_formed_checked SetDefault p = tt
well_formed_checked EraseAll p = tt

-- so is that of an accepted command, ...
pub accepted-checked : (payload : List ℕ) (c : Command) → validate_payload payload ≡ acceptedAs c → Checked (action_of c)
accepted-checked payload c is = well_formed_checked c (accepted_well_formed payload c is)

-- ---- along the decision, stage by stage
abbrev pub CheckedDecision : Decision → Type 0
CheckedDecision (refuse n) = Unit {0}
CheckedDecision (execute payload a) = Checked a
CheckedDecision execute_power_up = Unit {0}

command-checked : (payload : List ℕ) (r : Result Command) → validate_payload payload ≡ r → CheckedDecision (decide_command payload r)
command-checked payload (acceptedAs c) is = accepted-checked payload c is
command-checked payload (refused n) is = tt

pub payload-checked : (payload : List ℕ) → CheckedDecision (decide_payload payload)
unfolding decide_payload
payload-checked payload = command-checked payload (validate_payload payload) refl

frame-checked : (block : List ℕ) (r : Result Span) → CheckedDecision (decide_frame block r)
frame-checked block (acceptedAs span) = payload-checked (payload_in block span)
frame-checked block (refused n) = tt

pub step-checked : (s : Cells) (x : Step) → CheckedDecision (decide s x)
unfolding decide decide_block
step-checked s power_up = choice CheckedDecision (is_valid s) (λ _. tt) (λ _. tt)
step-checked s (command r) =
    choice CheckedDecision (ltb (length r.response) response_buffer_min) (λ _. tt)
    (λ _. choice CheckedDecision (is_valid s) (λ _. frame-checked r.block (read_frame command_wake_limit r.block)) (λ _. tt))
