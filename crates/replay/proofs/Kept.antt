-- What is kept of a line whose end is still to be read: how it is moved to the front, and what is there after a read.
-- Assumes nothing.
use Prim.Native.Nat.{ℕ, ◌+◌, ◌-◌, ◌≤◌, min}
use mathlib.Core.Path.{◌≡◌, sym, ◌∙◌}
use mathlib.Core.Bool.{Bool}
use mathlib.Core.List.{List}
use native.Mathlib.Nat.{zero-add}
use native.Mathlib.Omega.{arith}
use borrow.Author.Tests.{leb-true, leb-false}
use lib.Dec.{leb}
use lib.ListN.{length, take, drop, length-drop}
use lib.Seq.{take_all, take-take, length-take-le}
use Rattle.std.proofs.lemmas.List.Edits.{take-paste}
use Rattle.logic.proofs.Choice.{by_cases}
use Rattle.std.proofs.Math.Seq.{paste}
use Rattle.replay_text.specs.Session.{kept_max, kept_of}
use Rattle.logic.specs.Lists.{between}
use Rattle.replay.specs.Program.{is_end, chars_after}

-- the front of a buffer that the characters from a place on were moved to
pub moved : (l : List ℕ) (from end n : ℕ) → from ≤ end → end ≤ length l → n ≡ min (end - from) kept_max
    → take n (paste l 0 (drop from l) (from + n - from)) ≡ kept_of (between from end l)
moved l from end n ordered inside count =
    let size = length-drop from l in
    let all : from + n - from ≡ n = omega arith in
    let front = rw zero-add at (take-paste l 0 (drop from l) n (omega arith) (omega arith)) in
    rw (all, zero-add) (front ∙ kept)
  where
    kept : take n (drop from l) ≡ take kept_max (take (end - from) (drop from l))
    kept =
        by_cases (leb kept_max (end - from))
        (λ t. let most : n ≡ kept_max = omega (arith, leb-true kept_max (end - from) t) in rw most (sym (take-take kept_max (end - from) (drop from l) (omega arith))))
        (λ f.
        let most : n ≡ end - from = omega (arith, leb-false kept_max (end - from) f) in
        rw most (sym (take_all kept_max (take (end - from) (drop from l)) (omega (arith, length-take-le (end - from) (drop from l) (omega (arith, length-drop from l)))))))

-- ---- what is there after a read that follows the first k characters of a buffer
module _ (input : List ℕ) (k count : ℕ) (failed : Bool) where
  abbrev pub After : List ℕ → Type 0
  After chars = chars ≡ chars_after (take k input) (take count (drop k input)) (is_end count failed)
