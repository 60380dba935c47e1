-- The turns so far: one more goes on with them, or is the last for one of the four reasons.
-- Assumes nothing.
use Prim.Native.Nat.{ℕ, suc}
use mathlib.Core.Path.{◌≡◌}
use mathlib.Core.Bool.{Bool, true, false}
use mathlib.Core.List.{List, []}
use native.Mathlib.Omega.{arith}
use Rattle.std.proofs.Common.{Ok, Err}
use Rattle.cdi_state.specs.declared.ModuleState.{ModuleState}
use Rattle.cdi_state.specs.State.{factory_state}
use Rattle.replay.specs.declared.Ending.{Ending}
use Rattle.replay.specs.declared.Failure.{Failure}
use Rattle.replay.specs.declared.Failure.TheVariants as failure
use Rattle.replay.specs.Program.{Turned}
use Rattle.replay.specs.Ending.{done_of, printed_of, count_of, failed_of}
use Rattle.replay.specs.Run.{Turns, start, then, turns_max, is_done, not_printed, read_failed, used_up, Stops, stop}

-- no turn is made yet, or the last of the turns left something to be done
pub data Made : (n : ℕ) (output : List ℕ) (after : ModuleState) (rest : List ℕ) (endedAfter : Bool) (last : Ending) → Type 0 where
  none : {output : List ℕ} {last : Ending} → Made 0 output factory_state [] false last
  some : {n : ℕ} {state after : ModuleState} {chars output rest : List ℕ} {ended endedAfter : Bool} {last : Ending}
      → Turns n state chars ended
      → Turned state chars ended output after rest endedAfter false true (count_of (Ok last)) false
      → done_of (Ok last) ≡ false
      → Made (suc n) output after rest endedAfter last

so_far : {n : ℕ} {output rest : List ℕ} {after : ModuleState} {ended : Bool} {last : Ending} → Made n output after rest ended last → Turns n after rest ended
so_far none = start
so_far (some turns turn going) = then turns turn

-- if the turns are used up, the last of them stays the last
pub used_all : {n : ℕ} {output rest : List ℕ} {after : ModuleState} {ended : Bool} {last : Ending} → Made n output after rest ended last → n ≡ turns_max
    → Stops output after rest ended (done_of (Ok last)) (printed_of (Ok last)) (count_of (Ok last)) (failed_of (Ok last))
used_all none e = absurd (omega arith)
used_all (some turns turn going) e = rw going (stop turns turn (rw e used_up))

module _ {n : ℕ} {state after : ModuleState} {before chars output rest : List ℕ} {ended endedAfter : Bool} {last : Ending} (made : Made n before state chars ended last) where
  pub one_more : (next : Ending) → Turned state chars ended output after rest endedAfter (done_of (Ok next)) true (count_of (Ok next)) false
      → done_of (Ok next) ≡ false → Made (suc n) output after rest endedAfter next
  one_more next turn going = some (so_far made) (rw going at turn) going

  pub all_done : (next : Ending) → Turned state chars ended output after rest endedAfter (done_of (Ok next)) true (count_of (Ok next)) false
      → done_of (Ok next) ≡ true → Stops output after rest endedAfter (done_of (Ok next)) true (count_of (Ok next)) false
  all_done next turn done = rw done (stop (so_far made) (rw done at turn) is_done)

  pub failed : (why : Failure) → Turned state chars ended output after rest endedAfter (done_of (Err why)) (printed_of (Err why)) (count_of (Err why)) (failed_of (Err why))
      → Stops output after rest endedAfter (done_of (Err why)) (printed_of (Err why)) (count_of (Err why)) (failed_of (Err why))
  failed (failure.Print why) turn = stop (so_far made) turn not_printed
  failed (failure.Read why) turn = stop (so_far made) turn read_failed
