-- The cases of a line that the reader tells apart, and what it answers and writes in each.
-- Assumes nothing.
use Prim.Native.Nat.{ℕ, ◌+◌, ◌/◌, ◌<◌, ◌≤◌}
use mathlib.Core.Path.{◌≡◌, refl, ◌∙◌}
use mathlib.Core.Bool.{true, false}
use mathlib.Core.List.{List, []}
use native.Mathlib.Omega.{arith}
use Rattle.std.proofs.Common.{Ok, Err}
use borrow.Author.Tests.{ltb-true, ltb-false, lt-ltb, le-ltb, eq-eqb, ne_eqb, le-leb, lt-leb}
use lib.Dec.{ltb}
use lib.ListN.{length}
use Rattle.logic.specs.Written.{written}
use Rattle.logic.proofs.Choice.{by_cases}
use Rattle.hex_text.specs.Scan.{is_block}
use Rattle.hex_text.specs.declared.LineError.TheVariants.{NoRoom}
use Rattle.hex_text.specs.Hex.{block, not_hex, pairs, hex_line, line_max, hex_line_for, line_written}
use Rattle.hex_text.proofs.Pairs.{bytes_of, is_block_lem, is_not_hex, count}

pub too_long : (line : List ℕ) → line_max < length line → hex_line line ≡ not_hex
unfolding hex_line
too_long line h = simp (lt-ltb _ _ h)

module _ (line : List ℕ) (within : length line ≤ line_max) where
  pub blank : length line ≡ 0 → hex_line line ≡ block []
  unfolding hex_line
  blank none = simp (le-ltb _ _ within, eq-eqb _ _ none)

  pub not_blank : (length line ≡ 0 → ⊥) → hex_line line ≡ pairs line
  unfolding hex_line
  not_blank some = simp (le-ltb _ _ within, ne_eqb _ _ some)

-- a line that is neither empty nor pairs is not hex, whatever its length
pub not_pairs : (line : List ℕ) → (length line ≡ 0 → ⊥) → is_block (pairs line) ≡ false → hex_line line ≡ not_hex
not_pairs line some other =
    by_cases (ltb line_max (length line)) (λ t. too_long line (ltb-true line_max (length line) t))
    (λ f. not_blank line (ltb-false line_max (length line) f) some ∙ is_not_hex (pairs line) other)

-- a line of pairs is not empty
pub some_pairs : (line : List ℕ) → is_block (pairs line) ≡ true → length line ≡ 0 → ⊥
some_pairs line pairs-only none = omega (arith, count line pairs-only)

-- the empty block fits, and writes nothing
pub empty-fits : (buffer : List ℕ) → (Ok 0 ≡ hex_line_for (block []) (length buffer)) × (buffer ≡ line_written (block []) buffer)
unfolding written
empty-fits buffer = simp (le-leb 0 (length buffer) (omega arith)) (refl, refl)

-- a line of pairs has a byte for each three characters, and its block fits or does not
module _ (line buffer : List ℕ) (pairs-only : is_block (pairs line) ≡ true) where
  bytes-length : length (bytes_of (pairs line)) ≡ (length line + 1) / 3
  bytes-length = omega (arith, count line pairs-only)

  pub fits : (length line + 1) / 3 ≤ length buffer → Ok ((length line + 1) / 3) ≡ hex_line_for (pairs line) (length buffer)
  fits room = rw (is_block_lem (pairs line) pairs-only) (simp (bytes-length, le-leb _ _ room))

  pub does_not_fit : length buffer < (length line + 1) / 3 → (Err NoRoom ≡ hex_line_for (pairs line) (length buffer)) × (buffer ≡ line_written (pairs line) buffer)
  does_not_fit room = rw (is_block_lem (pairs line) pairs-only) (simp (bytes-length, lt-leb _ _ room) (refl, refl))
