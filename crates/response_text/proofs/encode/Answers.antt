-- Each pair takes three characters, and the last one ends the line.
use Rattle.std.proofs.Common.{◌≡◌, suc, ◌+◌, ◌-◌, ◌*◌, length, sym, ap, ◌∙◌, arith}
use Rattle.std.proofs.Math.Seq.{sets}
use Rattle.std.proofs.lemmas.List.{get_or-take, length-take-le}
use Rattle.logic.proofs.Written.{stores}
use Rattle.response_text.proofs.Text.{text_in_hex-length, more_left, last-left}
use Rattle.response_text.proofs.encode.Goals as goal

pub loop-n-preserved : goal.loop-n-preserved
loop-n-preserved c =
    let size = length-take-le (length c.args.bytes.now - 1) c.args.bytes.now (omega arith) in
    let here = get_or-take (length c.args.bytes.now - 1) c.args.bytes.now c.loop-n.n 0 (omega (arith, size)) in
    let behind : 3 * (c.loop-n.n + 1) ≡ suc (suc (suc (3 * c.loop-n.n))) = omega arith in
    record {
      room = omega arith;
      left = c.loop-n.invariant.left ∙ ap (sets c.loop-n.out (3 * c.loop-n.n)) (more_left _ c.loop-n.n (omega (arith, size))) ∙ rw (c.write_pair.ensures, here, behind);
    }

pub returns : goal.returns
returns c =
    let long = text_in_hex-length c.args.bytes.now c.requires.0 in
    let last = length c.args.bytes.now - 1 in
    let size = length-take-le last c.args.bytes.now (omega arith) in
    let all : c.loop-n.n ≡ last = omega (arith, size) in
    let left = rw all at c.loop-n.invariant.left in
    c.write_pair-2.ensures
    ∙ sym (ap (sets c.loop-n.out (3 * last)) (last-left _ last (omega arith)))
    ∙ sym left
    ∙ stores _ _ (omega (arith, long))
