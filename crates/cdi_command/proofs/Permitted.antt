-- A command on an item is permitted exactly where document 01's table says so, by a test of every byte as an item's code with each of the
-- four commands on an item: a payload of the two bytes is refused with 9 or 10 exactly where the table does not have them.
-- Assumes nothing.
use Prim.Native.Nat.{ℕ}
use mathlib.Core.Path.{◌≡◌, refl}
use mathlib.Core.Bool.{Bool, true, not, ◌||◌, beq}
use mathlib.Core.List.{[], ◌∷◌}
use lib.Dec.{eqb}
use Rattle.logic.specs.Lists.{all, all_below}
use Rattle.refusal.specs.Refusal.{refusal_of}
use Rattle.cdi_item.specs.Items.{items, item_in, item_of}
use Rattle.cdi_item.specs.Permissions.{is_permitted}
use Rattle.cdi_command.specs.Command.{select, command_on, parse_item, is_served, is_head_length_right, parse_payload}

abbrev is_refused_for : ℕ → Bool
is_refused_for number = eqb number 9 || eqb number 10

pub permitted-commands :
    all_below 256 (λ item. all (λ command. beq (not (is_refused_for (refusal_of (parse_payload (command ∷ item ∷ []))))) (is_permitted command item))
    (0x01 ∷ 0x02 ∷ 0x03 ∷ 0x04 ∷ [])) ≡ true
unfolding all_below items item_in item_of select command_on parse_item is_served is_head_length_right parse_payload
permitted-commands = refl
