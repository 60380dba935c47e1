-- The head of the response to a read is as long as the payload that was sent.
-- Assumes nothing.
use Prim.Native.Nat.{ℕ, ◌≤◌}
use mathlib.Core.Path.{◌≡◌}
use mathlib.Core.List.{List}
use native.Mathlib.Omega.{arith}
use lib.ListN.{length, length-drop}
use Rattle.cdi_decode.specs.Scan.{read_head}

module _ (s : List ℕ) (two : 2 ≤ length s) where
  pub head-length : length (read_head s) ≡ length s
  head-length = omega (arith, length-drop 1 s)
