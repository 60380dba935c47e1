-- What the reference model's cells hold in settings, and `execute` as the machine of the theorem on sequences.
use Rattle.std.specs.Prelude.{ℕ, List, [], ◌∷◌}
use Rattle.sequence.specs.Machine.{Machine}
use Rattle.freestar_model.specs.Cells.{Cell, pan_id_cell, long_address_cell, short_address_cell, channel}
use Rattle.freestar_model.specs.Model.{model}
use Rattle.freestar_settings.specs.declared.Settings.{Settings}
use Rattle.freestar_settings.specs.Settings.{ArrayLengths, step, result_of}

-- every field is a cell
abbrev pub cells : Settings → Cell → List ℕ
cells s pan_id_cell = s.pan_id
cells s long_address_cell = s.long_address
cells s short_address_cell = s.short_address
cells s channel = s.channel ∷ []

-- `step` and `result_of` are those of the contract of `execute`
abbrev pub machine : Machine model
machine = record { State = Settings; Admissible = ArrayLengths; cells = cells; step = step; result = result_of }
