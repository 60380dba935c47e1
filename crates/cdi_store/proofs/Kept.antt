-- A command that stores nothing leaves the state.
-- Assumes nothing.
use mathlib.Core.Path.{◌≡◌, refl}
use mathlib.Core.Bool.{false, true≢false}
use Rattle.cdi_command.specs.declared.Command.{Command}
use Rattle.cdi_command.specs.declared.Command.TheVariants.{Read, ReadIndexed, ReadNv, ReadNvIndexed, Write, WriteIndexed, Program, ProgramIndexed, SetDefault, EraseAll}
use Rattle.cdi_state.specs.declared.ModuleState.{ModuleState}
use Rattle.cdi_store.specs.Store.{stores, state_after}

pub nothing_stored : (s : ModuleState) (c : Command) → stores c ≡ false → state_after s c ≡ s
nothing_stored s (Read x) e = refl
nothing_stored s (ReadIndexed x i) e = refl
nothing_stored s (ReadNv x) e = refl
nothing_stored s (ReadNvIndexed x i) e = refl
nothing_stored s (Write x v) e = absurd (true≢false e)
nothing_stored s (WriteIndexed x i v) e = absurd (true≢false e)
nothing_stored s (Program x v) e = absurd (true≢false e)
nothing_stored s (ProgramIndexed x i v) e = absurd (true≢false e)
nothing_stored s SetDefault e = absurd (true≢false e)
nothing_stored s EraseAll e = absurd (true≢false e)
