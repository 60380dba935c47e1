-- The examples hold, by computation.
-- Assumes nothing.
use mathlib.Core.Path.{◌≡◌, refl}
use lib.ListN.{length}
use Rattle.logic.specs.Written.{written}
use Rattle.sequence.specs.Machine.{run}
use Rattle.analog.specs.Analog.{sum_of}
use Rattle.cdi_frame.specs.Frame.{wakes, length_at, read_frame}
use Rattle.cdi_item.specs.Items.{items, item_in, item_of}
use Rattle.cdi_item.specs.Values.{accepted_value}
use Rattle.cdi_command.specs.Command.{select, command_on, parse_item, is_served, is_head_length_right, parse_payload, validate_payload}
use Rattle.cdi_valid.specs.Valid.{is_valid}
use Rattle.cdi_store.specs.Store.{setting_stored}
use Rattle.cdi_value.specs.Value.{setting_value, plain_value}
use Rattle.cdi_module.specs.Module.{command_in, decide, step, result_of}
use Rattle.paper_examples.specs.Examples.{examples, AllHold}

pub example_count : length examples ≡ 16
example_count = refl

pub examples_hold : AllHold examples
unfolding written run sum_of items item_in item_of accepted_value wakes length_at read_frame select command_on parse_item is_served is_head_length_right parse_payload validate_payload is_valid setting_value plain_value setting_stored command_in decide step result_of
examples_hold =
    (refl, (refl, (refl, (refl, (refl, (refl, (refl, (refl, (refl, (refl, (refl, (refl, (refl, (refl, ((refl, refl), ((refl, tt), tt))))))))))))))))
