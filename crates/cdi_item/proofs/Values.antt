-- Only of a row more than the first byte has a rule.
-- Assumes nothing.
use Prim.Native.Nat.{ℕ}
use mathlib.Core.Path.{◌≡◌}
use mathlib.Core.Bool.{false}
use mathlib.Core.List.{List}
use lib.Dec.{eqb}
use lib.ListN.{get_or}
use Rattle.cdi_item.specs.Items.{analog_input, paired_module}
use Rattle.cdi_item.specs.Values.{accepted_value}

pub first-decides : (code : ℕ) (v w : List ℕ) → eqb code analog_input ≡ false → eqb code paired_module ≡ false → get_or v 0 0 ≡ get_or w 0 0
    → accepted_value code v ≡ accepted_value code w
unfolding accepted_value
first-decides code v w f g e = rw (f, g, e)
