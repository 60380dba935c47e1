-- What the functions promise that check a payload and build no command: a refusal, or the item, and what is left once there is no refusal.
use Rattle.std.specs.Prelude.{ℕ, List, Bool, cond, ◌||◌, eqb, Option, Some, None}
use Rattle.std.specs.Prelude as std
use Rattle.refusal.specs.declared.Refusal.{Refusal}
use Rattle.refusal.specs.Refusal.{Result, accepted, and_then}
use Rattle.refusal.specs.Numbers.{answer}
use Rattle.cdi_item.specs.declared.Item.{Item}
use Rattle.cdi_item.specs.Items.{analog_input}
use Rattle.cdi_command.specs.declared.Index.{Index}
use Rattle.cdi_command.specs.declared.Index.TheVariants.{Slot, Input}
use Rattle.cdi_command.specs.declared.Command.{Command}
use Rattle.cdi_command.specs.declared.Command.TheVariants.{SetDefault, EraseAll}
use Rattle.cdi_command.specs.Command.{read, read_nv, set_default, payload_code, payload_index, value_of, command_on, parse_item}

-- Read and Read NV, which carry no value
abbrev pub is_read_code : ℕ → Bool
is_read_code code = eqb code read || eqb code read_nv

-- the command about no item that has a code
abbrev pub bare_command : ℕ → Command
bare_command code = cond (eqb code set_default) SetDefault EraseAll

-- the row that an index byte names
abbrev pub index_of : Item → ℕ → Index
index_of item byte = cond (eqb item.code analog_input) (Input (record { 0 = byte })) (Slot (record { 0 = byte }))

-- the command on an item that a payload is
abbrev pub command_in : Item → List ℕ → Command
command_in item s = command_on item (payload_code s) (value_of item s) (payload_index s)

-- the command that a payload is, with the item that it is on, if it is on one
abbrev pub command_about : Option Item → List ℕ → Command
command_about None s = bare_command (payload_code s)
command_about (Some item) s = command_in item s

-- what is parsed once the item is found, if the command is on one
abbrev pub parse_rest : List ℕ → Option Item → Result Command
parse_rest s None = accepted (bare_command (payload_code s))
parse_rest s (Some item) = parse_item (payload_code s) s item

-- what a check tells of a payload: the refusal, or the command's item, if it is on one
abbrev pub checked_result : List ℕ → std.Result (Option Item) Refusal → Result Command
checked_result s r = and_then (answer r) (λ about. accepted (command_about about s))
