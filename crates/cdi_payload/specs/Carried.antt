-- A command's payload as the module hands it on: how many bytes it has, and an array that begins with them.
use Rattle.std.specs.Prelude.{ℕ, List, take}

-- the payload's own bytes; the bytes after them are free
abbrev pub carried : ℕ × List ℕ → List ℕ
carried x = take x.0 x.1
