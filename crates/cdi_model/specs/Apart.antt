-- Document 01, "The book": whether two steps share no cell that one of them stores in, as a test that is computed from the table. It
-- says exactly what `Apart` of the crate sequence says (proofs/Apart.antt, `apart_is_computed`).
use Rattle.std.specs.Prelude.{Bool, not, ◌&&◌, ◌||◌}
use Rattle.logic.specs.Lists.{all}
use Rattle.cdi_model.specs.Cells.{Cell}
use Rattle.cdi_model.specs.Table.{Decision, reads, stores}
use Rattle.cdi_model.specs.Tight.{every_cell}

-- if the first step stores in the cell, the second neither reads it nor stores in it
abbrev pub leaves : Decision → Decision → Cell → Bool
leaves d e c = not (stores d c) || not (reads e c || stores e c)

-- both ways, for each of the 68 cells
unfoldable pub are_apart : Decision → Decision → Bool
are_apart d e = all (λ c. leaves d e c && leaves e d c) every_cell
