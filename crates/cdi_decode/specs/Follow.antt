-- Document 02, Ask 1: which byte may follow which in the payload of a response to a command. That these are the bytes of the module's own
-- responses, and no others, is proved in the crate cdi_responses.
use Rattle.std.specs.Prelude.{ℕ, ◌%◌, List, [], ◌∷◌, ◌++◌, Bool, false, cond, not, ◌&&◌, eqb, ltb, leb, length, get_or, drop, replicate}
use Rattle.logic.specs.Lists.{has_zero}
use Rattle.cdi_item.specs.declared.Item.{Item}
use Rattle.cdi_item.specs.Items.{name, analog_input, status, row}
use Rattle.cdi_item.specs.Bits.{event_flag}
use Rattle.cdi_item.specs.Values.{accepted_value, accepted_flags}
use Rattle.cdi_command.specs.declared.Command.{Command}
use Rattle.cdi_command.specs.declared.Command.TheVariants.{Read, ReadIndexed, ReadNv, ReadNvIndexed, Write, WriteIndexed, Program, ProgramIndexed, SetDefault, EraseAll}
use Rattle.cdi_command.specs.Payload.{command_payload, response_payload}

-- ---- values
-- what a valid state has under an item: a name with a 00; a status whose first byte without bit 7 is accepted flags; of any other item a
-- value that it accepts
abbrev pub is_held : Item → List ℕ → Bool
is_held x v =
    cond (eqb x.code name) (has_zero v)
    (cond (eqb x.code status) (accepted_flags (get_or v 0 0 % event_flag))
    (accepted_value x.code v))

-- such a value of each item, whose bytes stand for those that are still to come: what they are does not matter
abbrev pub sample : Item → List ℕ
sample x = cond (eqb x.code analog_input) (0xFF ∷ 0x01 ∷ 0x00 ∷ 0x00 ∷ 0x00 ∷ []) (replicate x.length 0x00)

-- some bytes of a value, completed
abbrev pub completed : Item → List ℕ → List ℕ
completed x v = v ++ drop (length v) (sample x)

-- a name ends with its first 00, any other value with as many bytes as the item has
abbrev pub is_ended : Item → List ℕ → Bool
is_ended x v = cond (eqb x.code name) (has_zero v) (leb x.length (length v))

-- a byte may follow the bytes of a value that stand before it, if these have not ended it and the value can go on so
unfoldable pub may_follow_in : Item → (before : List ℕ) → ℕ → Bool
may_follow_in x before b = not (is_ended x before) && is_held x (completed x (before ++ b ∷ []))

-- ---- responses
-- what each response to a command begins with: all but the value, ...
abbrev pub head_of : Command → List ℕ
head_of c = response_payload (command_payload c) []

-- ... and the item whose value follows; after a command that is no read, a value of no bytes
abbrev pub no_value : Item
no_value = row 0 0 false 0

abbrev pub value_item : Command → Item
value_item (Read x) = x
value_item (ReadIndexed x i) = x
value_item (ReadNv x) = x
value_item (ReadNvIndexed x i) = x
value_item (Write x v) = no_value
value_item (WriteIndexed x i v) = no_value
value_item (Program x v) = no_value
value_item (ProgramIndexed x i v) = no_value
value_item SetDefault = no_value
value_item EraseAll = no_value

-- responses that begin with a head and go on with an item's value
module _ (head : List ℕ) (x : Item) where
  -- the bytes of a payload that are its value
  abbrev pub value_part : List ℕ → List ℕ
  value_part p = drop (length head) p

  -- a byte may follow the bytes of a payload that stand before it: at a place of the head the head's own byte, after the head what may follow
  -- in the value
  unfoldable pub may_follow : (before : List ℕ) → ℕ → Bool
  may_follow before b = cond (ltb (length before) (length head)) (eqb b (get_or head (length before) 0)) (may_follow_in x (value_part before) b)

  -- a payload is whole with the head and the end of the value
  unfoldable pub is_whole : List ℕ → Bool
  is_whole p = leb (length head) (length p) && is_ended x (value_part p)
