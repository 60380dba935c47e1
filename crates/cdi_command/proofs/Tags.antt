-- The reads are the commands with the tags 0 to 3.
-- Assumes nothing.
use mathlib.Core.Path.{◌≡◌, refl, ap, ◌∙◌}
use mathlib.Core.Bool.{true, false, not}
use mathlib.Core.List.{List, [], ◌∷◌}
use Prim.Native.Nat.{ℕ}
use denote.Enum.Declared.{tag_of}
use mir.Val.{has_key}
use types.Run.{OneOf}
use Rattle.logic.proofs.Keys.{has_key_lem}
use Rattle.cdi_command.specs.contracts.Command as declared
use Rattle.cdi_command.specs.declared.Command.{Command}
use Rattle.cdi_command.specs.declared.Command.TheVariants.{Read, ReadIndexed, ReadNv, ReadNvIndexed, Write, WriteIndexed, Program, ProgramIndexed, SetDefault, EraseAll}
use Rattle.cdi_command.specs.Kind.{is_read}

abbrev tag : Command → ℕ
tag c = tag_of declared.the_type c

abbrev pub read_tags : List ℕ
read_tags = 0 ∷ 1 ∷ 2 ∷ 3 ∷ []

abbrev pub other_tags : List ℕ
other_tags = 4 ∷ 5 ∷ 6 ∷ 7 ∷ 8 ∷ 9 ∷ []

by_tags : (c : Command) → (is_read c ≡ has_key read_tags (tag c)) × (is_read c ≡ not (has_key other_tags (tag c)))
by_tags (Read x) = (refl, refl)
by_tags (ReadIndexed x i) = (refl, refl)
by_tags (ReadNv x) = (refl, refl)
by_tags (ReadNvIndexed x i) = (refl, refl)
by_tags (Write x v) = (refl, refl)
by_tags (WriteIndexed x i v) = (refl, refl)
by_tags (Program x v) = (refl, refl)
by_tags (ProgramIndexed x i v) = (refl, refl)
by_tags SetDefault = (refl, refl)
by_tags EraseAll = (refl, refl)

pub is_read_lem : (c : Command) → OneOf read_tags (tag c) → is_read c ≡ true
is_read_lem c h = (by_tags c).0 ∙ has_key_lem read_tags (tag c) h

pub is_other : (c : Command) → OneOf other_tags (tag c) → is_read c ≡ false
is_other c h = (by_tags c).1 ∙ ap not (has_key_lem other_tags (tag c) h)
