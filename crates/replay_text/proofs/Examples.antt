-- Document 01's example of the replay program, and the shortest inputs, hold by computation.
-- Assumes nothing.
use Prim.Native.Nat.{ℕ}
use mathlib.Core.Path.{◌≡◌, refl, sym, ◌∙◌}
use mathlib.Core.List.{List, [], ◌∷◌, ◌++◌, map}
use Rattle.logic.specs.Written.{written}
use Rattle.hex_text.specs.Hex.{space, line_feed, pairs, hex_line}
use Rattle.cdi_frame.specs.Frame.{wakes, length_at, read_frame}
use Rattle.cdi_item.specs.Items.{items, item_in, item_of}
use Rattle.cdi_item.specs.Values.{accepted_value}
use Rattle.response_text.specs.Text.{text_in_hex, refused_text, not_hex_text, printed}
use Rattle.cdi_command.specs.Command.{select, command_on, parse_item, is_served, is_head_length_right, parse_payload, validate_payload}
use Rattle.cdi_valid.specs.Valid.{is_valid}
use Rattle.cdi_store.specs.Store.{setting_stored}
use Rattle.cdi_value.specs.Value.{setting_value, plain_value}
use Rattle.cdi_module.specs.Module.{command_in, decide, step, result_of}
use Rattle.replay_text.specs.Replay.{lines, lines_text, replayed}
use Rattle.replay_text.specs.Answered.{with_line_feeds}
use Rattle.replay_text.specs.Theorem.{model_replayed}
use Rattle.replay_text.proofs.Theorem.{replay_theorem}

-- the five blocks, each a line of hex
abbrev pub example_input : List ℕ
example_input =
    with_line_feeds (map text_in_hex (
    (0x80 ∷ 0x55 ∷ 0x82 ∷ 0x01 ∷ 0x15 ∷ []) ∷
    (0x80 ∷ 0x55 ∷ 0x83 ∷ 0x02 ∷ 0x15 ∷ 0x03 ∷ []) ∷
    (0x80 ∷ 0x55 ∷ 0x83 ∷ 0x02 ∷ 0x15 ∷ 0x07 ∷ []) ∷
    (0x80 ∷ 0x55 ∷ 0x82 ∷ 0x01 ∷ 0x15 ∷ []) ∷
    (0x80 ∷ 0x55 ∷ 0x82 ∷ 0x03 ∷ 0x25 ∷ []) ∷ []))

abbrev pub example_text : List ℕ
example_text =
    printed (text_in_hex (0x80 ∷ 0x55 ∷ 0x83 ∷ 0xC1 ∷ 0x15 ∷ 0x00 ∷ [])) ++
    printed (text_in_hex (0x80 ∷ 0x55 ∷ 0x85 ∷ 0xC0 ∷ 0x00 ∷ 0x02 ∷ 0x15 ∷ 0x03 ∷ [])) ++
    printed (refused_text 12) ++
    printed (text_in_hex (0x80 ∷ 0x55 ∷ 0x83 ∷ 0xC1 ∷ 0x15 ∷ 0x03 ∷ [])) ++
    printed (refused_text 10)

pub example_holds : replayed example_input ≡ example_text
unfolding written items item_in item_of accepted_value wakes length_at read_frame select command_on parse_item is_served is_head_length_right parse_payload validate_payload is_valid setting_value plain_value setting_stored command_in decide step result_of pairs hex_line text_in_hex lines lines_text with_line_feeds
example_holds = refl

-- so it is the reference model's text
pub example_by_model : model_replayed example_input ≡ example_text
example_by_model = sym (replay_theorem example_input) ∙ example_holds

-- an empty input prints nothing, a lone line feed is a blank line, and a lone space is not hex, with its line feed or without
pub shortest_inputs : (replayed [] ≡ []) × (replayed (line_feed ∷ []) ≡ printed (refused_text 3))
    × (replayed (space ∷ []) ≡ printed not_hex_text) × (replayed (space ∷ line_feed ∷ []) ≡ printed not_hex_text)
unfolding written items item_in item_of accepted_value wakes length_at read_frame select command_on parse_item is_served is_head_length_right parse_payload validate_payload is_valid setting_value plain_value setting_stored command_in decide step result_of pairs hex_line text_in_hex lines lines_text with_line_feeds
shortest_inputs = (refl, refl, refl, refl)
