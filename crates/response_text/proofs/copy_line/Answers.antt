-- Its test is the definitions' own, and the copy goes over the front.
use Rattle.std.proofs.Common.{refl}
use borrow.Author.Tests.{le-leb}
use Rattle.logic.specs.Written.{written}
use Rattle.response_text.proofs.copy_line.Goals as goal

pub returns : goal.returns
unfolding written
returns c = simp (le-leb _ _ c.if-line-out.false) (refl, rw c.copy_from_slice.ensures.after refl)
