-- A name as it is shown, the row of an input, and that a command which is no read reads nothing.
-- Assumes nothing.
use Prim.Native.Nat.{ℕ, zero, suc, ◌+◌, ◌-◌, ◌<◌, ◌≤◌}
use mathlib.Core.Path.{◌≡◌, refl, ap}
use mathlib.Core.Bool.{true, false, true≢false}
use mathlib.Core.List.{List, [], ◌∷◌, ◌++◌, append-nil, append_assoc}
use native.Mathlib.Numerals.{add-one}
use native.Mathlib.Omega.{arith}
use borrow.Author.Tests.{eq-eqb, ne_eqb}
use lib.Dec.{eqb}
use lib.ListN.{length, get_or, take, drop}
use lib.Seq.{take-suc, take-length, drop-length}
use Rattle.logic.proofs.Rest.{one_more}
use Rattle.cdi_command.specs.declared.Command.{Command}
use Rattle.cdi_command.specs.declared.Command.TheVariants.{Read, ReadIndexed, ReadNv, ReadNvIndexed, Write, WriteIndexed, Program, ProgramIndexed, SetDefault, EraseAll}
use Rattle.cdi_command.specs.Kind.{is_read}
use Rattle.cdi_state.specs.declared.Settings.{Settings}
use Rattle.cdi_state.specs.declared.ModuleState.{ModuleState}
use Rattle.cdi_state.specs.State.{no_input, input_at}
use Rattle.cdi_value.specs.Value.{name_shown, value_read}

module _ (l : List ℕ) (i : ℕ) (h : i < length l) where
  one-taken : take (i + 1) l ≡ take i l ++ (get_or l i 0 ∷ [])
  one-taken = rw add-one (take-suc l i 0 h)

  -- a 00 is the last byte that is shown
  pub shown_zero : get_or l i 0 ≡ 0 → take i l ++ name_shown (drop i l) ≡ take (i + 1) l
  unfolding name_shown
  shown_zero e = rw (one_more l i 0 h, one-taken) (simp (eq-eqb (get_or l i 0) 0 e))

  -- any other byte is shown, and then the rest
  pub shown-other : (get_or l i 0 ≡ 0 → ⊥) → take i l ++ name_shown (drop i l) ≡ take (i + 1) l ++ name_shown (drop (i + 1) l)
  unfolding name_shown
  shown-other e = rw (one_more l i 0 h, one-taken) (simp (ne_eqb (get_or l i 0) 0 e, append_assoc))

-- where no 00 was found, the whole name is shown
pub shown-all : (l : List ℕ) (i : ℕ) → i ≡ length l → take i l ++ name_shown (drop i l) ≡ l
unfolding name_shown
shown-all l i e = rw (e, take-length l, drop-length l, append-nil)

-- the first 00 is the last byte that is shown
pub shown_to_zero : (l : List ℕ) (n : ℕ) → ((k : ℕ) → k < n → eqb (get_or l k 0) 0 ≡ false) → n < length l → eqb (get_or l n 0) 0 ≡ true
    → take (suc n) l ≡ name_shown l
unfolding name_shown
shown_to_zero [] n before h here = absurd (omega arith)
shown_to_zero (b ∷ bs) zero before h here = rw here refl
shown_to_zero (b ∷ bs) (suc n) before h here =
    rw (before 0 (omega arith)) (ap (λ l. b ∷ l) (shown_to_zero bs n (λ k below. before (suc k) (omega arith)) (omega arith) here))

-- where there is no 00, the whole name is shown
pub shown-whole : (l : List ℕ) → ((k : ℕ) → k < length l → eqb (get_or l k 0) 0 ≡ false) → l ≡ name_shown l
unfolding name_shown
shown-whole [] none = refl
shown-whole (b ∷ bs) none = rw (none 0 (omega arith)) (ap (λ l. b ∷ l) (shown-whole bs (λ k below. none (suc k) (omega arith))))

-- inputs count from 1
pub input-at : (t : Settings) (n : ℕ) → 1 ≤ n → input_at t n ≡ get_or t.analog_inputs (n - 1) no_input
input-at t zero h = absurd (omega arith)
input-at t (suc i) h = let e : suc i - 1 ≡ i = omega arith in rw e

-- a command that is no read has no value
pub none_read : (s : ModuleState) (c : Command) → is_read c ≡ false → value_read s c ≡ []
none_read s (Read x) e = absurd (true≢false e)
none_read s (ReadIndexed x i) e = absurd (true≢false e)
none_read s (ReadNv x) e = absurd (true≢false e)
none_read s (ReadNvIndexed x i) e = absurd (true≢false e)
none_read s (Write x v) e = refl
none_read s (WriteIndexed x i v) e = refl
none_read s (Program x v) e = refl
none_read s (ProgramIndexed x i v) e = refl
none_read s SetDefault e = refl
none_read s EraseAll e = refl
