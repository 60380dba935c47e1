-- A row of five bytes as an input or as a slot is written as it was read.
-- Assumes nothing.
use Prim.Native.Nat.{ℕ}
use mathlib.Core.Path.{◌≡◌, refl, sym, ◌∙◌}
use mathlib.Core.List.{List, [], ◌∷◌}
use native.Mathlib.Omega.{arith}
use lib.ListN.{length}
use lib.Seq.{take_all, take-suc}
use Rattle.cdi_state.specs.State.{input_bytes, slot_bytes, input_in, slot_in}

pub input-written : (row : List ℕ) → length row ≡ 5 → input_bytes (input_in row) ≡ row
input-written [] h = absurd (omega arith)
input-written (a ∷ []) h = absurd (omega arith)
input-written (a ∷ b ∷ []) h = absurd (omega arith)
input-written (a ∷ b ∷ c ∷ row) h = refl

pub slot_written : (row : List ℕ) → length row ≡ 5 → slot_bytes (slot_in row) ≡ row
slot_written row h = sym (take-suc row 4 0 (omega (arith, h))) ∙ take_all 5 row (omega (arith, h))
