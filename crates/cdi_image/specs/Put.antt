-- Bytes put over those of a buffer from a place on, as the parts of an image are written.
use Rattle.std.specs.Prelude.{ℕ, ◌+◌, ◌≡◌, List, length}
use Rattle.std.proofs.lemmas.List.Edits.{sets}

-- t is s with p put from i on, and the next place is j
pub record Put (s : List ℕ) (i : ℕ) (p : List ℕ) (j : ℕ) (t : List ℕ) : Type 0 where
  pub ends : i + length p ≡ j
  pub stored : t ≡ sets s i p
