-- The marks of the item list are the permissions of document 01, by a test of every byte as an item's code and of each of the four marks.
-- Assumes nothing.
use Prim.Native.Nat.{ℕ}
use mathlib.Core.Path.{◌≡◌, refl}
use mathlib.Core.Bool.{Bool, true, false, ◌&&◌, beq}
use Rattle.logic.specs.Lists.{all_below}
use Rattle.refusal.specs.Refusal.{Result, accepted, refused}
use Rattle.cdi_item.specs.declared.Item.{Item}
use Rattle.cdi_item.specs.Items.{R, N, W, P, items, item_in, item_of, permitted}
use Rattle.cdi_item.specs.Permissions.{is_permitted}

-- whether the item that was found has the mark
abbrev marked : Result Item → ℕ → Bool
marked (accepted x) mark = permitted x mark
marked (refused n) mark = false

-- the mark of a command agrees with the table, for the item of a code
abbrev agrees : (code mark command : ℕ) → Bool
agrees code mark command = beq (marked (item_of code) mark) (is_permitted command code)

pub marks_are_permissions : all_below 256 (λ code. (agrees code R 0x01 && agrees code N 0x03) && (agrees code W 0x02 && agrees code P 0x04)) ≡ true
unfolding all_below items item_in item_of
marks_are_permissions = refl
