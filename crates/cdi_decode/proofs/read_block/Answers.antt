-- The refusals of the frame come first; what is left is the payload's.
use Rattle.std.proofs.Common.{sym, arith, length-drop}
use Rattle.std.proofs.Math.ListN.{length-take}
use Rattle.std.proofs.Math.Nat.{add-sub_cancel_left}
use Rattle.cdi_frame.proofs.Accepted.{payload-within, payload-size}
use Rattle.cdi_decode.specs.Decode.{response_wakes}
use Rattle.cdi_decode.proofs.read_block.Goals as goal

pub overflow_add-end : goal.overflow_add-end
overflow_add-end c = omega (arith, payload-within response_wakes _ _ (sym c.in_ok-span.ensures))

pub slice_bounds-read_payload-end : goal.slice_bounds-read_payload-end
slice_bounds-read_payload-end c = omega (arith, payload-within response_wakes _ _ (sym c.in_ok-span.ensures))

pub read_payload-requires : goal.read_payload-requires
read_payload-requires c =
    let e = sym c.in_ok-span.ensures in
    (c.requires, simp (add-sub_cancel_left, length-take, length-drop) (omega (arith, payload-within response_wakes _ _ e, payload-size response_wakes _ _ e)))
