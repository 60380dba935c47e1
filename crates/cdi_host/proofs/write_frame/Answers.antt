-- The prefix is stored, then the payload is copied behind it.
use Rattle.std.proofs.Common.{◌≡◌, ◌+◌, ◌≤◌, List, ℕ, sym, ap, ◌∙◌, arith, append_assoc, drop, length, take}
use Rattle.std.proofs.Math.Seq.{drop-drop}
use Rattle.std.proofs.lemmas.Bool.{le-leb}
use Rattle.std.proofs.lemmas.List.Edits.{sets, sets-eq}
use Rattle.logic.specs.Written.{written, written_in}
use Rattle.logic.proofs.Written.{part_from, with_part, part_room, part-written}
use Rattle.cdi_frame.proofs.ReadBack.{frame-length}
use Rattle.cdi_host.proofs.Stores.{frame-stored}
use Rattle.cdi_host.proofs.write_frame.Goals as goal

-- a copy into the part of a list from i on is stores one after the other
copied : (s p part : List ℕ) (i : ℕ) → i + length p ≤ length s → part ≡ written_in (part_from i s) p → with_part i s part ≡ sets s i p
unfolding written
copied s p part i h e =
    let fits : length p ≤ length (part_from i s) = omega (arith, part_room i s) in
    part-written i s p (e ∙ simp (le-leb (length p) (length (part_from i s)) fits)) ∙
    rw (drop-drop (length p) i s) (sym (sets-eq p s i h ∙ append_assoc (take i s) p (drop (i + length p) s)))

pub returns : goal.returns
returns c =
    let a = c.args in
    let p = a.payload.now in
    let s = c.write_prefix.new.frame in
    let i = a.wake + 3 in
    let long : length s ≡ length a.frame.now = c.write_prefix.auto.frame in record {
      size = sym (frame-length a.wake p);
      over = copied s p c.copy.new.out i (omega arith) c.copy.ensures.1 ∙
          ap (λ (l : List ℕ). sets l i p) c.write_prefix.ensures ∙
          frame-stored a.frame.now p a.wake (omega arith);
    }
