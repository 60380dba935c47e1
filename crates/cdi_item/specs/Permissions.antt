-- Document 01, "Items", the column of permitted commands once more, in the bytes of the wire: which command codes each item takes. The item
-- list has the same as marks; a wrong mark in list and code together would agree with itself, and not with this table.
use Rattle.std.specs.Prelude.{ℕ, List, [], ◌∷◌, Bool, ◌&&◌, eqb}
use Rattle.logic.specs.Lists.{any}

-- an item's code, and the codes of the commands that it permits: 01 Read, 03 Read NV, 02 Write, 04 Program
pub record Permission : Type 0 where
  pub item : ℕ
  pub commands : List ℕ

abbrev pub permits : ℕ → List ℕ → Permission
permits item commands = record { item = item; commands = commands }

abbrev pub permissions : List Permission
permissions =
    permits 0x01 (0x01 ∷ 0x03 ∷ []) ∷
    permits 0x02 (0x01 ∷ 0x03 ∷ []) ∷
    permits 0x03 (0x01 ∷ 0x03 ∷ []) ∷
    permits 0x10 (0x01 ∷ 0x03 ∷ 0x04 ∷ []) ∷
    permits 0x11 (0x01 ∷ 0x03 ∷ 0x02 ∷ 0x04 ∷ []) ∷
    permits 0x12 (0x01 ∷ 0x03 ∷ 0x02 ∷ 0x04 ∷ []) ∷
    permits 0x13 (0x01 ∷ 0x03 ∷ 0x02 ∷ 0x04 ∷ []) ∷
    permits 0x14 (0x01 ∷ 0x03 ∷ 0x02 ∷ 0x04 ∷ []) ∷
    permits 0x15 (0x01 ∷ 0x03 ∷ 0x02 ∷ 0x04 ∷ []) ∷
    permits 0x16 (0x01 ∷ 0x03 ∷ 0x02 ∷ 0x04 ∷ []) ∷
    permits 0x18 (0x01 ∷ 0x03 ∷ 0x04 ∷ []) ∷
    permits 0x20 (0x01 ∷ []) ∷
    permits 0x21 (0x01 ∷ []) ∷
    permits 0x22 (0x01 ∷ []) ∷
    permits 0x23 (0x01 ∷ []) ∷
    permits 0x25 (0x01 ∷ 0x02 ∷ 0x04 ∷ []) ∷
    permits 0x26 (0x01 ∷ []) ∷
    []

-- a command on an item is permitted
abbrev pub is_permitted : (command item : ℕ) → Bool
is_permitted command item = any (λ (p : Permission). eqb p.item item && any (eqb command) p.commands) permissions
