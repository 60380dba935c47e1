-- What some offsets are as numbers.
-- Assumes nothing.
use Prim.Native.Nat.{ℕ}
use mathlib.Core.Path.{◌≡◌, refl}
use mathlib.Core.List.{[], ◌∷◌}
use lib.IntN.{pos, neg_ℤ}
use Rattle.cdi_state.specs.declared.AnalogInput.{AnalogInput}
use Rattle.cdi_state.specs.State.{input_offset}

-- an input with the two bytes of its offset
abbrev pub with_offset : ℕ → ℕ → AnalogInput
with_offset high low = record { channel = 0xFF; readings = 1; reference = 0; offset = high ∷ low ∷ [] }

-- the high byte stands first, and the offset is signed
pub offset_examples : (input_offset (with_offset 0xFF 0xFF) ≡ neg_ℤ (pos 1)) × (input_offset (with_offset 0x80 0x00) ≡ neg_ℤ (pos 32768))
    × (input_offset (with_offset 0x7F 0xFF) ≡ pos 32767) × (input_offset (with_offset 0x00 0x01) ≡ pos 1)
offset_examples = (refl, refl, refl, refl)
