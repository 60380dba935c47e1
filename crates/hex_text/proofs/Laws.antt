-- What holds of every block that is read.
-- Assumes nothing.
use Prim.Native.Nat.{ℕ, ◌≤◌}
use mathlib.Core.Path.{◌≡◌, refl, ap}
use mathlib.Core.Bool.{false≢true}
use mathlib.Core.List.{List, []}
use mathlib.Core.Logic.{◌⊎◌, inl, inr, ⊎_elim}
use native.Mathlib.Omega.{arith}
use Rattle.std.proofs.Common.{Ok, Err}
use borrow.Author.Tests.{ltb-false, le-leb}
use lib.Dec.{ltb, eqb}
use lib.ListN.{length}
use Rattle.logic.proofs.Choice.{by_cases}
use Rattle.hex_text.specs.Scan.{is_block}
use Rattle.hex_text.specs.declared.LineError.TheVariants.{NoRoom}
use Rattle.hex_text.specs.Hex.{Line, block, not_hex, pairs, hex_line, line_max, hex_line_for}
use Rattle.hex_text.proofs.Pairs.{Decodes, decodes, decodes-length, bytes_of}

-- a block that is read is empty, or is the bytes of a line of pairs within the limit
block_cases : (line bs : List ℕ) → hex_line line ≡ block bs → (bs ≡ []) ⊎ ((length line ≤ line_max) × Decodes line bs)
unfolding hex_line
block_cases line bs e =
    by_cases (ltb line_max (length line)) (λ t. absurd (false≢true (ap is_block (simp t at e))))
    (λ f.
    by_cases (eqb (length line) 0) (λ t. let h : block [] ≡ block bs = simp (f, t) at e in inl (cc))
    (λ g. let h : pairs line ≡ block bs = simp (f, g) at e in inr (ltb-false line_max (length line) f, rw (ap bytes_of h) at (decodes line (ap is_block h)))))

-- a block that is read has at most 200 bytes
pub block-length : (line bs : List ℕ) → hex_line line ≡ block bs → length bs ≤ 200
block-length line bs e =
    ⊎_elim (λ (none : bs ≡ []). omega (arith, ap length none)) (λ (w : (length line ≤ line_max) × Decodes line bs). omega (arith, decodes-length w.1)) (block_cases line bs e)

fits-any : (line : Line) (room : ℕ) → ((bs : List ℕ) → line ≡ block bs → length bs ≤ room) → hex_line_for line room ≡ Err NoRoom → ⊥
fits-any (block bs) room fits e =
    let answer : Ok (length bs) ≡ Err NoRoom = simp (le-leb (length bs) room (fits bs refl)) at e in
    let never : ◌≡◌ {A = ℕ} 0 1 = cc in
    omega arith
fits-any not_hex room fits e = let never : ◌≡◌ {A = ℕ} 0 1 = cc in omega arith

-- so 200 bytes of room are always enough
pub room-enough : (line : List ℕ) (room : ℕ) → 200 ≤ room → hex_line_for (hex_line line) room ≡ Err NoRoom → ⊥
room-enough line room h = fits-any (hex_line line) room (λ bs e. omega (arith, block-length line bs e))
