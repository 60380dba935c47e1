-- No Program of the second input stores in the first, whatever its value and whatever the state: it is refused, or it stores in the second
-- alone. So by the sequence theorem no number of them alters the first.
-- Assumes nothing.
use mathlib.Core.Path.{◌≡◌, refl}
use mathlib.Core.Bool.{false}
use mathlib.Core.List.{List, [], ◌∷◌, map}
use Rattle.logic.proofs.Choice.{by_cases}
use Rattle.sequence.specs.Model.{stores_in}
use Rattle.cdi_frame.specs.Frame.{wakes, length_at, read_frame}
use Rattle.cdi_item.specs.declared.Value.{Value}
use Rattle.cdi_item.specs.Items.{items, item_in, item_of}
use Rattle.cdi_item.specs.Values.{value_bytes, accepted_value}
use Rattle.cdi_command.specs.Command.{select, command_on, parse_item, is_served, is_head_length_right, parse_payload, validate_payload}
use Rattle.cdi_state.specs.declared.ModuleState.{ModuleState}
use Rattle.cdi_model.specs.Cells.{Copy, nv, working, input, copy_of}
use Rattle.cdi_model.specs.Action.{action_of}
use Rattle.cdi_model.specs.Table.{stores}
use Rattle.cdi_model.specs.Model.{Cells, is_valid, decide, decide_payload, decide_block, model}
use Rattle.cdi_module.specs.Module as Module
use Rattle.cdi_module.specs.Machine.{cells, machine}
use Rattle.cdi_module.proofs.Theorem.{sequence_theorem}
use Rattle.sequence_examples.specs.Table.{program_second, FirstUnaltered}
use Rattle.sequence_examples.proofs.Computed.{some_stores, none-stores}

stores_elsewhere : (m : Cells) (v : Value) (copy : Copy) → stores_in model m (program_second v) (copy_of copy (input 1)) ≡ false
unfolding wakes length_at read_frame items item_in item_of select command_on parse_item is_served is_head_length_right parse_payload validate_payload
    action_of stores decide decide_payload decide_block
stores_elsewhere m v nv =
    by_cases (is_valid m) (λ e. by_cases (accepted_value 0x16 (value_bytes v)) (λ a. rw (e, a)) (λ a. rw (e, a))) (λ e. rw e)
stores_elsewhere m v working =
    by_cases (is_valid m) (λ e. by_cases (accepted_value 0x16 (value_bytes v)) (λ a. rw (e, a)) (λ a. rw (e, a))) (λ e. rw e)

none_of_them : (s : ModuleState) (values : List Value) (copy : Copy) → some_stores model machine s (map program_second values) (copy_of copy (input 1)) ≡ false
unfolding some_stores
none_of_them s [] copy = refl
none_of_them s (v ∷ values) copy =
    rw (stores_elsewhere (cells s) v copy) (none_of_them (Module.step s (program_second v)) values copy)

pub first_unaltered : FirstUnaltered
first_unaltered s h values copy =
    let xs = map program_second values in
    (sequence_theorem s h xs).none-stored (copy_of copy (input 1)) (none-stores model machine s xs (copy_of copy (input 1)) (none_of_them s values copy))
