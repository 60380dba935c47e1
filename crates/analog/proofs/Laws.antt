-- What holds of every readout and of every percent.
-- Assumes nothing.
use Prim.Native.Nat.{ℕ, ◌≤◌, ◌<◌}
use mathlib.Core.Path.{◌≡◌, refl}
use mathlib.Core.Bool.{◌||◌}
use mathlib.Core.List.{List, [], ◌∷◌}
use native.Mathlib.Nat.{min-le_right}
use native.Mathlib.Omega.{arith}
use lib.Dec.{eqb, ltb}
use lib.IntN.{ℤ, pos, negsuc}
use lib.ListN.{length}
use Rattle.logic.proofs.Choice.{choice}
use Rattle.refusal.specs.Refusal.{none, reading_count, reading_over}
use Rattle.analog.specs.declared.ReadoutResult.{ReadoutResult}
use Rattle.analog.specs.Analog.{readings_max, readout_max, full_scale, result, any_over, sum_of, clamped, adjusted, readout_of, percent_of}

pub percent-at-most_100 : (n : ℕ) → n < full_scale → percent_of n ≤ 100
percent-at-most_100 n h = omega arith

pub percent_never_falls : (m n : ℕ) → m ≤ n → percent_of m ≤ percent_of n
percent_never_falls m n h = omega arith

-- what holds of the two refusals and of every accepted result holds of each readout
each-result : (P : ReadoutResult → Type 0) (rs : List ℕ) (offset : ℤ) → P (result reading_count 0) → P (result reading_over 0) → ((z : ℤ) → P (result none (clamped z))) → P (readout_of rs offset)
each-result P rs offset p q r =
    choice P (eqb (length rs) 0 || ltb readings_max (length rs)) (λ _. p)
    (λ _. choice P (any_over rs) (λ _. q)
    (λ _. r (adjusted rs offset)))

clamped_in_range : (z : ℤ) → clamped z ≤ readout_max
clamped_in_range (pos n) = min-le_right n readout_max
clamped_in_range (negsuc n) = omega arith

pub readout_in_range : (rs : List ℕ) (offset : ℤ) → (readout_of rs offset).readout ≤ readout_max
readout_in_range rs offset = each-result (λ r. r.readout ≤ readout_max) rs offset (omega arith) (omega arith) clamped_in_range

pub refused_readout_zero : (rs : List ℕ) (offset : ℤ) → ((readout_of rs offset).refusal ≡ none → ⊥) → (readout_of rs offset).readout ≡ 0
refused_readout_zero rs offset = each-result (λ r. (r.refusal ≡ none → ⊥) → r.readout ≡ 0) rs offset (λ h. refl) (λ h. refl) (λ z h. absurd (h refl))

-- the offset is signed: with -1, a reading of 0 stays at the lower end
pub offset_signed : readout_of (0 ∷ []) (negsuc 0) ≡ result none 0
unfolding sum_of
offset_signed = refl

-- the sum is divided once: readings of 1 and 2 give 24, though each of them halved would give 16
pub divided_once : readout_of (1 ∷ 2 ∷ []) (pos 0) ≡ result none 24
unfolding sum_of
divided_once = refl
