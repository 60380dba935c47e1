-- What a copy by `copy` comes to, by what it promises: bytes that fit are written whole.
-- Assumes nothing.
use Prim.Native.Nat.{ℕ, ◌+◌, ◌-◌, ◌≤◌}
use mathlib.Core.Path.{◌≡◌, ◌∙◌}
use mathlib.Core.List.{List, ◌++◌}
use native.Mathlib.Omega.{arith}
use lib.ListN.{length, length-append}
use borrow.Author.Tests.{le-leb}
use Rattle.logic.specs.Written.{Writes, length_in, written_in}
use Rattle.logic.proofs.Written.{part_from, with_part, part_room, written-length, written_behind}

-- over the front of a buffer
pub copied-whole : (bytes before after : List ℕ) (n : ℕ) → length bytes ≤ length before
    → (n ≡ length_in before bytes) × (after ≡ written_in before bytes) → Writes bytes before after n
copied-whole bytes before after n h e =
    let fits = le-leb (length bytes) (length before) h in
    record { size = rw fits at e.0; over = rw fits at e.1 }

-- behind a head that is already written over the front of a buffer s, as t has it
pub copied_behind : (bytes : List ℕ) {s head t after : List ℕ} {n m : ℕ} → Writes head s t n → length head + length bytes ≤ length s
    → (m ≡ length_in (part_from n t) bytes) × (after ≡ written_in (part_from n t) bytes) → Writes (head ++ bytes) s (with_part n t after) (n + m)
copied_behind bytes {s} {head} {t} {after} {n} {m} w h e =
    let room : length (part_from n t) ≡ length s - length head = part_room n t ∙ rw (w.size, w.over, written-length s head (omega arith)) in
    let copied = copied-whole bytes (part_from n t) after m (omega (arith, room)) e in
    record {
      size = omega (arith, w.size, copied.size, length-append head bytes);
      over = written_behind s head bytes w.size w.over copied.over;
    }
