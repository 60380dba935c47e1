-- What the reader's answer to a line says of the line, and where the line ends.
-- Assumes nothing.
use Prim.Native.Nat.{ℕ, ◌+◌, ◌-◌, ◌≤◌}
use mathlib.Core.Path.{◌≡◌, refl, ap, ◌∙◌}
use mathlib.Core.List.{List}
use native.Mathlib.Omega.{arith}
use borrow.Author.Tests.{leb-true, le-leb}
use lib.Dec.{leb}
use lib.ListN.{length, take, drop, length-drop}
use Rattle.logic.proofs.Choice.{by_cases}
use Rattle.logic.proofs.Written.{written-front}
use Rattle.std.proofs.Common.{Result, Err}
use Rattle.hex_text.specs.declared.LineError.{LineError}
use Rattle.hex_text.specs.declared.LineError.TheVariants.{NoRoom}
use Rattle.hex_text.specs.Hex.{Line, block, not_hex, hex_line, line_feed, index_of, line_from, line_end, hex_line_for, line_written}
use Rattle.hex_text.proofs.Laws.{room-enough}
use Rattle.replay_text.proofs.Lines.{line-within}
use Rattle.replay_lines.specs.Progress.{block_max, line_read, ReadWithin}

held : (line : Line) (buffer : List ℕ) → (hex_line_for line (length buffer) ≡ Err NoRoom → ⊥)
    → (line_read (hex_line_for line (length buffer)) (line_written line buffer) ≡ line) × ReadWithin (hex_line_for line (length buffer)) (length buffer)
held not_hex buffer fits = (refl, tt)
held (block bytes) buffer fits =
    by_cases (leb (length bytes) (length buffer))
    (λ t. rw t (ap block (written-front buffer bytes), leb-true (length bytes) (length buffer) t))
    (λ f. absurd (fits (rw f)))

-- the next line of an input was read: where it ends, and that its answer and the buffer tell of it
pub record NextLine (input buffer : List ℕ) (start end : ℕ) (line : Result ℕ LineError) : Type 0 where
  pub found : end ≡ start + index_of line_feed (drop start input)
  pub inside : end ≤ length input
  pub told : line_read line buffer ≡ hex_line (take (end - start) (drop start input))
  pub fits : ReadWithin line (length buffer)

-- a buffer of 200 bytes has room for it
pub next-read : (input buffer after : List ℕ) (start end : ℕ) (line : Result ℕ LineError) → start ≤ length input → length buffer ≡ block_max
    → length after ≡ length buffer → end ≡ line_end start input → line ≡ hex_line_for (hex_line (line_from start input)) (length buffer)
    → after ≡ line_written (hex_line (line_from start input)) buffer → NextLine input after start end line
next-read input buffer after start end line within size kept place answer bytes =
    let chars = line_from start input in
    let here : end ≡ start + index_of line_feed (drop start input) = place ∙ rw (le-leb start (length input) within) refl in
    let width : end - start ≡ index_of line_feed (drop start input) = omega arith in
    let t = held (hex_line chars) buffer (room-enough chars (length buffer) (omega arith)) in
    record {
      found = here;
      inside = omega (arith, line-within (drop start input), length-drop start input);
      told = rw (width, answer, bytes) t.0;
      fits = rw (answer, kept) t.1;
    }
