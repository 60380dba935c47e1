-- A packet is read as its message exactly if the message is accepted. So a writer has to refuse a target with the group 80: its packet would be
-- read as something else, or not at all.
-- Assumes nothing.
use Prim.Native.Nat.{ℕ}
use mathlib.Core.Path.{◌≡◌, refl, subst}
use mathlib.Core.Bool.{true, ◌&&◌, and-eq-true_iff}
use mathlib.Core.List.{List}
use native.Mathlib.Omega.{arith}
use lib.Dec.{ltb}
use lib.ListN.{length}
use Rattle.logic.proofs.Bytes.{Bytes}
use Rattle.refusal.specs.Refusal.{Result, accepted, refused, and_then}
use Rattle.refusal.proofs.Results.{never_both}
use Rattle.coyote_packet.specs.declared.Packet.{Packet}
use Rattle.coyote_packet.specs.Layout.{addressed_end, Message, addressed, message_bytes, fit_targets, fit_data, is_accepted}
use Rattle.coyote_packet.specs.Read.{message_in, read_packet}
use Rattle.coyote_packet.specs.Laws.{ReadBackOnly, GroupLost}
use Rattle.coyote_packet.proofs.Accepted.{accepted_laid_out}
use Rattle.coyote_packet.proofs.Whole.{fit_is_whole}

-- what was read of a block that says m
pub read_of : (block : List ℕ) (m : Message) (r : Result Packet) → read_packet block ≡ r → and_then r (λ p. accepted (message_in block p)) ≡ accepted m
    → Bytes block → is_accepted m ≡ true
read_of block m (accepted p) e said bytes =
    let same : message_in block p ≡ m = cc in
    subst (λ (x : Message). is_accepted x ≡ true) same (accepted_laid_out block p bytes e).message-accepted
read_of block m (refused n) e said bytes = never_both n m said

pub read-back_only : ReadBackOnly
read-back_only m bytes e = read_of (message_bytes m) m (read_packet (message_bytes m)) refl e bytes

pub group_lost : GroupLost
unfolding is_accepted
group_lost type group address targets bytes i all inside end e =
    let ok = read-back_only (addressed type group address targets bytes) all e in
    let a = (and-eq-true_iff (ltb type addressed_end) (fit_targets targets && fit_data type (length bytes))).0 ok in
    let b = (and-eq-true_iff (fit_targets targets) (fit_data type (length bytes))).0 a.1 in
    let w = fit_is_whole targets b.0 in
    w.other_groups i (omega (arith, w.whole)) end
