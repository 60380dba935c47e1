-- Live cells change by power-up only: no command stores in a cell that stands for itself.
-- Assumes nothing.
use mathlib.Core.Path.{◌≡◌, refl}
use mathlib.Core.Bool.{Bool, true, false, ◌&&◌, ◌||◌}
use Rattle.cdi_model.specs.Cells.{Single, single, has_working}
use Rattle.cdi_model.specs.Action.{Action, read, read_nv, read_status, write, program, set_default, erase_all}
use Rattle.cdi_model.specs.Table.{action_stores}

pub live_kept : (a : Action) (x : Single) → action_stores a (single x) ≡ false
live_kept (read d) x = refl
live_kept (read_nv d) x = refl
live_kept read_status x = refl
live_kept (write k v) x = refl
live_kept (program k v) x = neither (has_working k)
  where
    neither : (both : Bool) → (both && false) || false ≡ false
    neither true = refl
    neither false = refl
live_kept set_default x = refl
live_kept erase_all x = refl
