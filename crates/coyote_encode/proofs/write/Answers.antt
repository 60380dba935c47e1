-- `write` meets its contract: part after part is copied behind the first bytes, and the sum and the last byte are stored behind all.
use Rattle.std.proofs.Common.{rules, ◌≡◌, length, ℕ, ◌-◌, ◌/◌, ◌%◌, [], ◌∷◌, ◌++◌, take, get_or, arith, refl, ap, ◌∙◌, lt-ltb, le-ltb}
use lib.Seq.{take_all}
use Rattle.logic.specs.Written.{Writes}
use Rattle.logic.proofs.Written.{stores}
use Rattle.refusal.specs.Refusal.{accepted}
use Rattle.checksum.specs.Checksum.{sum_from}
use Rattle.coyote_packet.specs.Layout.{packet_bytes, start, sum_start, low_first}
use Rattle.coyote_packet.proofs.Lengths.{packet_length_lem}
use Rattle.coyote_encode.specs.Encode.{joined}
use Rattle.coyote_encode.proofs.Parts.{joined_size, one-more, finished}
use Rattle.coyote_encode.proofs.write.Goals as goal

pub returns-then-packet-size : goal.returns-then-packet-size
returns-then-packet-size c =
    let p = joined c.args.payload.now in
    simp (lt-ltb (length c.args.packet.now) (length (packet_bytes c.args.kind p)) (omega (arith, packet_length_lem c.args.kind p, joined_size c.args.payload.now))) (refl, refl)

pub loop-part-init : goal.loop-part-init
loop-part-init c =
    let low : get_or c.to_le_bytes.result 0 0 ≡ c.joined_length-size.result % 256 = search rules in
    let high : get_or c.to_le_bytes.result 1 0 ≡ c.joined_length-size.result / 256 = search rules in
    record { so_far = record { size = refl; over = rw (low, high) (stores c.args.packet.now (start ∷ c.args.kind ∷ low_first c.joined_length-size.result) (omega arith)) }; room = omega arith }

pub loop-part-preserved : goal.loop-part-preserved
loop-part-preserved c =
    let all = joined_size c.args.payload.now in
    let more =
    one-more c.args.payload.now (start ∷ c.args.kind ∷ low_first c.joined_length-size.result) (record { ref_ptr = (0, 0); now = [] })
    c.loop-part-test.true (omega arith) c.loop-part.invariant.so_far (omega arith) c.copy-end.ensures
    in
    record { so_far = more.0; room = more.1 }

pub returns : goal.returns
returns c =
    let parts = c.args.payload.now in
    let p = joined parts in
    let all = joined_size parts in
    let last = take_all c.loop-part.part-index parts c.loop-part-test.false in
    let done : Writes (start ∷ c.args.kind ∷ (low_first c.joined_length-size.result ++ p)) c.args.packet.now c.loop-part.packet c.loop-part.end =
    rw last at c.loop-part.invariant.so_far
    in
    let place : c.loop-part.end - 0 ≡ c.loop-part.end = omega arith in
    let sum : c.sum_from-sum.result ≡ sum_from sum_start (take c.loop-part.end c.loop-part.packet) =
    c.sum_from-sum.ensures ∙ ap (λ (k : ℕ). sum_from sum_start (take k c.loop-part.packet)) place
    in
    let w = finished c.args.kind c.joined_length-size.result p (omega arith) done (omega arith) sum in
    simp (le-ltb (length c.args.packet.now) (length (packet_bytes c.args.kind p)) (omega (arith, w.size, packet_length_lem c.args.kind p)))
    (ap accepted w.size, w.over)
