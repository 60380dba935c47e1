-- Bytes put over those of a buffer: some behind others are both put at once, in the buffer itself or in the part of it behind a head.
-- Assumes nothing.
use Prim.Native.Nat.{ℕ, ◌+◌, ◌≤◌}
use mathlib.Core.Path.{◌≡◌, sym, ap, ◌∙◌}
use mathlib.Core.List.{List, ◌++◌}
use native.Mathlib.Omega.{arith}
use lib.ListN.{length, length-append}
use lib.Seq.{sets, length-sets}
use Rattle.logic.specs.Written.{written}
use Rattle.logic.proofs.Written.{sets-append, stores, written_behind, part_from, part_room, with_part}
use Rattle.cdi_image.specs.Put.{Put}

pub put-behind : {s t u p q : List ℕ} {i j k : ℕ} → Put s i p j t → Put t j q k u → Put s i (p ++ q) k u
put-behind {s = s} {p = p} {q = q} {i = i} {j = j} x y = record {
  ends = omega (arith, length-append p q, x.ends, y.ends);
  stored = y.stored ∙ ap (λ (l : List ℕ). sets l j q) x.stored ∙ sym (sets-append s i p q ∙ ap (λ (n : ℕ). sets (sets s i p) n q) x.ends);
}

-- what is put from the first byte on
pub put_front : {s p t : List ℕ} {n : ℕ} → Put s 0 p n t → n ≤ length s → t ≡ written s p
put_front {s = s} {p = p} x h = x.stored ∙ stores s p (omega (arith, x.ends))

pub put_in_rest : {s t head p rest : List ℕ} {n m : ℕ} → Put s 0 head n t → Put (part_from n t) 0 p m rest → n + m ≤ length s
    → Put s 0 (head ++ p) (n + m) (with_part n t rest)
put_in_rest {s = s} {t = t} {head = head} {p = p} {n = n} {m = m} x y h =
    let ends : length (head ++ p) ≡ n + m = omega (arith, length-append head p, x.ends, y.ends) in
    let same : length t ≡ length s = ap length x.stored ∙ length-sets s 0 head in
    let room : m ≤ length (part_from n t) = omega (arith, part_room n t) in
    record {
      ends = omega arith;
      stored = written_behind s head p (omega (arith, x.ends)) (put_front x (omega arith)) (put_front y room)
          ∙ sym (stores s (head ++ p) (omega arith));
    }
