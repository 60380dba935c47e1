-- The copy replaces the part from the place on, which is the stores from that place on.
use Rattle.std.proofs.Common.{◌≡◌, ◌+◌, ◌-◌, length, sym, ◌∙◌, append_assoc, arith, take}
use Rattle.std.proofs.Math.Seq.{sets-eq, drop-drop}
use Rattle.cdi_image.proofs.write.put.Goals as goal

pub returns : goal.returns
returns c =
    let s = c.args.buffer.now in
    let p = c.args.source.now in
    let i = c.args.at in
    let whole : i + length p - i ≡ length p = omega arith in
    rw (c.copy_from_slice.ensures.after, whole, drop-drop (length p) i s)
    (sym (sets-eq p s i (omega arith) ∙ append_assoc (take i s) p _))
