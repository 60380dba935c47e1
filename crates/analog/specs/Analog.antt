-- Document 01, "Readout and percent".
use Rattle.std.specs.Prelude.{ℕ, ◌+◌, ◌*◌, ◌/◌, min, Bool, cond, ◌||◌, List, [], ◌∷◌, eqb, ltb, ℤ, pos, negsuc, ◌+ℤ◌, length, Ok, Err}
use Rattle.std.specs.Prelude as std
use Rattle.logic.specs.Lists.{any}
use Rattle.refusal.specs.declared.Refusal.{Refusal}
use Rattle.refusal.specs.Refusal.{none, reading_count, reading_over}
use Rattle.refusal.specs.Numbers.{number_of}
use Rattle.analog.specs.declared.ReadoutResult.{ReadoutResult}

-- the most readings that are averaged
abbrev pub readings_max : ℕ
readings_max = 16

-- the largest reading of a 12-bit converter
abbrev pub reading_max : ℕ
reading_max = 4095

-- a 12-bit reading times this is a 16-bit readout
abbrev pub scale : ℕ
scale = 16

-- the largest 16-bit readout
abbrev pub readout_max : ℕ
readout_max = 65535

-- the readout that would be the whole reference: one more than the largest
abbrev pub full_scale : ℕ
full_scale = 65536

abbrev pub result : ℕ → ℕ → ReadoutResult
result refusal readout = record { refusal = refusal; readout = readout }

-- what an answer of the source is told as
abbrev pub readout_from : std.Result ℕ Refusal → ReadoutResult
readout_from (Ok readout) = result none readout
readout_from (Err e) = result (number_of e) 0

-- some reading is more than the converter can give
abbrev pub any_over : List ℕ → Bool
any_over rs = any (λ r. ltb reading_max r) rs

unfoldable pub sum_of : List ℕ → ℕ
sum_of [] = 0
sum_of (r ∷ rs) = r + sum_of rs

-- held within 16 bits: what lies outside is brought to the nearer end
abbrev pub clamped : ℤ → ℕ
clamped (pos n) = min n readout_max
clamped (negsuc n) = 0

-- the mean at 16 bits, cut to a whole number once, and the signed offset on top of it
abbrev pub adjusted : List ℕ → ℤ → ℤ
adjusted rs offset = pos (scale * sum_of rs / length rs) +ℤ offset

-- how many readings there are is tested first (15), then their size (16)
abbrev pub readout_of : List ℕ → ℤ → ReadoutResult
readout_of rs offset =
    cond (eqb (length rs) 0 || ltb readings_max (length rs)) (result reading_count 0)
    (cond (any_over rs) (result reading_over 0)
    (result none (clamped (adjusted rs offset))))

-- the share of the full scale in whole percent; a half is rounded up
abbrev pub percent_of : ℕ → ℕ
percent_of readout = (readout * 100 + full_scale / 2) / full_scale
