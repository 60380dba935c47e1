-- The examples hold, by computation.
-- Assumes nothing.
use mathlib.Core.Path.{◌≡◌, refl}
use lib.ListN.{length}
use Rattle.cdi_frame.specs.Frame.{wakes, length_at, read_frame}
use Rattle.cdi_item.specs.Items.{items, item_in, item_of}
use Rattle.cdi_item.specs.Values.{accepted_value}
use Rattle.cdi_command.specs.Command.{select, command_on, parse_item, is_served, is_head_length_right, parse_payload, validate_payload}
use Rattle.cdi_decode.specs.Follow.{may_follow_in, may_follow, is_whole}
use Rattle.cdi_decode.specs.Decode.{first_failing, read_as, read_payload, decode_response}
use Rattle.response_examples.specs.Examples.{examples, AllHold}

pub example_count : length examples ≡ 73
example_count = refl

pub examples_hold : AllHold examples
unfolding wakes length_at read_frame items item_in item_of accepted_value select command_on parse_item is_served is_head_length_right parse_payload validate_payload may_follow_in may_follow is_whole first_failing read_as read_payload decode_response
examples_hold =
    (refl, (refl, (refl, (refl, (refl, (refl, (refl, (refl, (refl, (refl, (refl, (refl, (refl, (refl, (refl, (refl, (refl, (refl, (refl, (refl, (refl, (refl, (refl, (refl, (refl, (refl, (refl, (refl, (refl, (refl, (refl, (refl, (refl, (refl, (refl, (refl, (refl, (refl, (refl, (refl, (refl, (refl, (refl, (refl, (refl, (refl, (refl, (refl, (refl, (refl, (refl, (refl, (refl, (refl, (refl, (refl, (refl, (refl, (refl, (refl, (refl, (refl, (refl, (refl, (refl, (refl, (refl, (refl, (refl, (refl, (refl, (refl, (refl, tt)))))))))))))))))))))))))))))))))))))))))))))))))))))))))))))))))))))))))
