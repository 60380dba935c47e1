-- One byte more is stored after those that stand over the front of the buffer already.
use Rattle.std.proofs.Common.{◌≡◌, ◌+◌, ◌<◌, ℕ, List, length, take, get_or, sym, ap, ◌∙◌, add-one, arith, refl}
use Rattle.std.proofs.Math.ListN.{set}
use Rattle.std.proofs.Math.Seq.{take-suc}
use Rattle.std.proofs.lemmas.List.{length-take-le}
use Rattle.logic.specs.Written.{written}
use Rattle.logic.proofs.Written.{written_one}
use Rattle.byte_copy.proofs.copy.Goals as goal

pub loop-i-init : goal.loop-i-init
unfolding written
loop-i-init c = refl

more : (s l : List ℕ) (i : ℕ) → i < length l → i < length s → set (written s (take i l)) i (get_or l i 0) ≡ written s (take (i + 1) l)
more s l i h k =
    let n : length (take i l) ≡ i = length-take-le i l (omega arith) in
    ap (λ (j : ℕ). set (written s (take i l)) j (get_or l i 0)) (sym n) ∙
    written_one s (take i l) (get_or l i 0) (omega arith) ∙
    ap (written s) (sym (take-suc l i 0 h) ∙ ap (λ (j : ℕ). take j l) (sym (add-one i)))

pub loop-i-preserved : goal.loop-i-preserved
loop-i-preserved c =
    let l = c.loop-i in
    ap (λ (s : List ℕ). set s l.i (get_or c.args.source.now l.i 0)) l.invariant ∙
    more c.args.out.now c.args.source.now l.i (omega arith) (omega arith)
