-- The laws of a sum at the end of a packet, over where it begins: what a writer puts there passes, and nothing else does; a packet that
-- passes does not pass with one summed byte changed; and what a reader finds of a packet that was written.
-- Assumes nothing.
use Rattle.std.proofs.Common.{◌≡◌, ℕ, ◌+◌, ◌-◌, ◌<◌, ◌≤◌, true, false, ◌&&◌, eqb, leb, List, [], ◌∷◌, ◌++◌, length, get_or, take, drop, set, sym, refl, ap, ◌∙◌, append_assoc, arith, length-append, length-drop, length-set, take-append-drop, length-take-le, get_or-drop, get_or-set_other, get_or-take, take_at, get_or-append-add, eq-eqb, ne_eqb, eqb-true, le-leb, leb-true}
use mathlib.Core.Bool.{and-eq-true_iff}
use lib.Seq.{get_or_at, take-append_seam, drop-append_seam, take-set-lt, drop-set-add}
use Rattle.logic.specs.Lists.{part}
use Rattle.logic.specs.Written.{written}
use Rattle.logic.proofs.Bytes.{Bytes, bytes_take, bytes_drop}
use Rattle.logic.proofs.Rest.{one_more, nothing_left}
use Rattle.logic.proofs.Written.{written_one}
use Rattle.checksum.specs.Checksum.{byte_sum, sum_from, summed, sum_holds, ends_hold}
use Rattle.checksum.proofs.Sums.{sum_tells}

module _ (start last : ℕ) (bytes : List ℕ) where
  pub summed-length : length (summed start last bytes) ≡ length bytes + 2
  summed-length = length-append bytes _

  -- the last byte is where a reader looks for it
  summed-last : get_or (summed start last bytes) (length (summed start last bytes) - 1) 0 ≡ last
  summed-last =
      let n : length (summed start last bytes) - 1 ≡ length bytes + 1 = omega (arith, summed-length) in
      ap (λ (i : ℕ). get_or (summed start last bytes) i 0) n ∙ get_or-append-add bytes (sum_from start bytes ∷ last ∷ []) 1 0

  -- what a writer puts at the end passes
  pub written_passes : sum_holds start (summed start last bytes) ≡ true
  written_passes =
      let n : length (summed start last bytes) - 2 ≡ length bytes = omega (arith, summed-length) in
      rw (le-leb 2 (length (summed start last bytes)) (omega (arith, summed-length)), n, take_at bytes (sum_from start bytes ∷ last ∷ []) (length bytes), get_or_at bytes (sum_from start bytes) (last ∷ []) 0 (length bytes))
      (eq-eqb (sum_from start bytes) (sum_from start bytes) refl)

-- the ends of a packet that was written hold, and a block whose ends hold has these bytes there
pub ends-written : (start first last : ℕ) (bytes : List ℕ) → ends_hold first last (summed start last (first ∷ bytes)) ≡ true
ends-written start first last bytes =
    let packet = summed start last (first ∷ bytes) in
    simp (
      le-leb 1 (length packet) (omega (arith, summed-length start last (first ∷ bytes))),
      eq-eqb first first refl,
      eq-eqb (get_or packet (length packet - 1) 0) last (summed-last start last (first ∷ bytes)),
    )

pub ends_are : (first last : ℕ) (block : List ℕ) → ends_hold first last block ≡ true → (get_or block 0 0 ≡ first) × (get_or block (length block - 1) 0 ≡ last)
ends_are first last block e =
    let a = (and-eq-true_iff (leb 1 (length block)) (eqb (get_or block 0 0) first && eqb (get_or block (length block - 1) 0) last)).0 e in
    let b = (and-eq-true_iff (eqb (get_or block 0 0) first) (eqb (get_or block (length block - 1) 0) last)).0 a.1 in
    (eqb-true (get_or block 0 0) first b.0, eqb-true (get_or block (length block - 1) 0) last b.1)

-- of bytes after a head, those are found again that are not the head's
pub summed-after : (start last : ℕ) (head bytes : List ℕ) → part (length head) (length bytes) (summed start last (head ++ bytes)) ≡ bytes
summed-after start last head bytes =
    let tail = sum_from start (head ++ bytes) ∷ last ∷ [] in
    ap (take (length bytes)) (ap (drop (length head)) (append_assoc head bytes tail) ∙ drop-append_seam head (bytes ++ tail)) ∙
    take-append_seam bytes tail

-- the sum and the last byte, stored after bytes that are written over the front of a buffer, make up the packet there
pub summed-written : (start last : ℕ) (s bytes : List ℕ) → length bytes + 2 ≤ length s
    → set (set (written s bytes) (length bytes) (sum_from start bytes)) (length bytes + 1) last ≡ written s (summed start last bytes)
summed-written start last s bytes h =
    let sum = sum_from start bytes in
    let n : length bytes + 1 ≡ length (bytes ++ sum ∷ []) = sym (length-append bytes (sum ∷ [])) in
    ap (λ (l : List ℕ). set l (length bytes + 1) last) (written_one s bytes sum (omega arith)) ∙
    ap (λ (i : ℕ). set (written s (bytes ++ sum ∷ [])) i last) n ∙
    written_one s (bytes ++ sum ∷ []) last (omega arith) ∙
    ap (written s) (append_assoc bytes (sum ∷ []) (last ∷ []))

-- what a packet that passes has: two bytes at least, and the sum
both_hold : (start : ℕ) (packet : List ℕ) → sum_holds start packet ≡ true
    → (2 ≤ length packet) × (sum_from start (take (length packet - 2) packet) ≡ get_or packet (length packet - 2) 0)
both_hold start packet e =
    let n = length packet - 2 in
    let both = (and-eq-true_iff (leb 2 (length packet)) (eqb (sum_from start (take n packet)) (get_or packet n 0))).0 e in
    (leb-true 2 (length packet) both.0, eqb-true (sum_from start (take n packet)) (get_or packet n 0) both.1)

-- and a packet that passes was written so
pub passes_as_written : (start : ℕ) (packet : List ℕ) → sum_holds start packet ≡ true
    → packet ≡ summed start (get_or packet (length packet - 1) 0) (take (length packet - 2) packet)
passes_as_written start packet e =
    let n = length packet - 2 in
    let both = both_hold start packet e in
    let h = both.0 in
    let j : n + 1 ≡ length packet - 1 = omega arith in
    cc (
      take-append-drop n packet,
      one_more packet n 0 (omega arith),
      one_more packet (n + 1) 0 (omega arith),
      nothing_left packet (n + 1 + 1) (omega arith),
      both.1,
    )

-- a packet that passes does not pass with one byte changed, of those that are summed
module _ (start : ℕ) (packet : List ℕ) (i b : ℕ) (all : Bytes packet) (byte : b < 256) where
  pub change_noticed : start ≤ i → i < length packet - 2 → (b ≡ get_or packet i 0 → ⊥) → sum_holds start packet ≡ true
      → sum_holds start (set packet i b) ≡ false
  change_noticed h l other e =
      let n = length packet - 2 in
      let front = take n packet in
      let rest = drop start front in
      let size = length-take-le n packet (omega arith) in
      let place : start + (i - start) ≡ i = omega arith in
      let changed : drop start (take n (set packet i b)) ≡ set rest (i - start) b =
      ap (drop start) (take-set-lt n packet i b l) ∙
      ap (λ (j : ℕ). drop start (set front j b)) (sym place) ∙
      drop-set-add start front (i - start) b
      in
      let same : get_or rest (i - start) 0 ≡ get_or packet i 0 =
      get_or-drop start front (i - start) 0 ∙ ap (λ (j : ℕ). get_or front j 0) place ∙ get_or-take n packet i 0 l
      in
      rw (length-set packet i b, le-leb 2 (length packet) (both_hold start packet e).0, changed, get_or-set_other packet i n b 0 (λ q. omega arith))
      (ne_eqb (byte_sum (set rest (i - start) b)) (get_or packet n 0) (λ q.
      other
      (sum_tells rest (i - start) b (bytes_drop start front (bytes_take n packet all)) byte (omega (arith, length-drop start front))
      (q ∙ sym (both_hold start packet e).1) ∙
      same)))
