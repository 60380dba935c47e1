-- A number that is no input's stores nothing.
-- Assumes nothing.
use Prim.Native.Nat.{ℕ, zero, suc}
use mathlib.Core.Path.{◌≡◌, refl, sym, ap}
use native.Mathlib.Omega.{arith}
use lib.ListN.{length}
use lib.Seq.{set_out}
use Rattle.cdi_state.specs.declared.AnalogInput.{AnalogInput}
use Rattle.cdi_state.specs.declared.Settings.{Settings}
use Rattle.cdi_store.specs.Store.{with_inputs, input_stored}

pub input-left : (t : Settings) (n : ℕ) (x : AnalogInput) → length t.analog_inputs ≡ 2 → (n ≡ 1 → ⊥) → (n ≡ 2 → ⊥) → t ≡ input_stored t n x
input-left t zero x h not-1 not-2 = refl
input-left t (suc zero) x h not-1 not-2 = absurd (not-1 refl)
input-left t (suc (suc zero)) x h not-1 not-2 = absurd (not-2 refl)
input-left t (suc (suc (suc i))) x h not-1 not-2 = sym (ap (with_inputs t) (set_out t.analog_inputs (suc (suc i)) x (omega arith)))
