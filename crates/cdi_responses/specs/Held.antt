-- Document 02, Ask 1: the bytes that valid states have under an item, and what the module shows of them.
use Rattle.std.specs.Prelude.{ℕ, ◌≡◌, List, true, cond, eqb, length}
use Rattle.logic.specs.Lists.{Bytes}
use Rattle.cdi_item.specs.declared.Item.{Item}
use Rattle.cdi_item.specs.Items.{name}
use Rattle.cdi_command.specs.declared.Command.{Command}
use Rattle.cdi_command.specs.Payload.{WellFormed}
use Rattle.cdi_command.specs.Kind.{is_read}
use Rattle.cdi_state.specs.declared.ModuleState.{ModuleState}
use Rattle.cdi_state.specs.State.{ArrayLengths, FieldLengths}
use Rattle.cdi_valid.specs.Valid.{is_valid}
use Rattle.cdi_value.specs.Value.{name_shown, value_read}
use Rattle.cdi_decode.specs.Follow.{is_held, value_item}
use Rattle.cdi_model.specs.Cells.{Cell, is_cell}
use Rattle.cdi_module.specs.Machine.{cells}

-- a valid state of a program (01's "sound"): its arrays have their lengths, and every cell holds bytes
pub record ValidState (s : ModuleState) : Type 0 where
  pub valid : is_valid s ≡ true
  pub array_lengths : ArrayLengths s
  pub field_lengths : FieldLengths s
  pub in_bytes : (c : Cell) → is_cell c ≡ true → Bytes (cells s c)

-- bytes that a valid state can have under an item, as many as the item has
pub record Held (x : Item) (w : List ℕ) : Type 0 where
  pub full : length w ≡ x.length
  pub held : is_held x w ≡ true
  pub bytes : Bytes w

-- what is shown of them: a name up to its first 00, any other value whole
abbrev pub shown : Item → List ℕ → List ℕ
shown x w = cond (eqb x.code name) (name_shown w) w

-- what a read command reads from a valid state is what is shown of such bytes ...
pub record Holds (s : ModuleState) (c : Command) : Type 0 where
  pub bytes : List ℕ
  pub is_held_lem : Held (value_item c) bytes
  pub what_is_read : value_read s c ≡ shown (value_item c) bytes

-- ... and for all such bytes there is a valid state from which it reads them
pub record Witness (c : Command) (w : List ℕ) : Type 0 where
  pub state : ModuleState
  pub is_valid_lem : ValidState state
  pub what_is_read : value_read state c ≡ shown (value_item c) w

abbrev pub EveryStateHolds : Type 0
EveryStateHolds = (s : ModuleState) → ValidState s → (c : Command) → WellFormed c → is_read c ≡ true → Holds s c

abbrev pub EachIsHeld : Type 0
EachIsHeld = (c : Command) → WellFormed c → is_read c ≡ true → (w : List ℕ) → Held (value_item c) w → Witness c w
