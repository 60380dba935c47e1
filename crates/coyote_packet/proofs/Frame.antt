-- A packet is read as its payload is, and a block that is read is the packet of its own payload.
-- Assumes nothing.
use Prim.Native.Nat.{ℕ, suc, ◌+◌, ◌-◌, ◌*◌, ◌/◌, ◌%◌}
use mathlib.Core.Path.{◌≡◌, refl, ap, ◌∙◌}
use mathlib.Core.Bool.{true}
use mathlib.Core.List.{List, [], ◌∷◌, ◌++◌}
use native.Mathlib.Omega.{arith}
use borrow.Author.Tests.{eq-eqb, eqb-true}
use lib.ListN.{length, get_or, take}
use lib.Seq.{length-take-le}
use Rattle.logic.specs.Lists.{part}
use Rattle.logic.proofs.Bytes.{Bytes}
use Rattle.refusal.specs.Refusal.{accepted}
use Rattle.refusal.proofs.Results.{else_refused}
use Rattle.checksum.specs.Checksum.{summed, sum_holds, ends_hold}
use Rattle.checksum.proofs.Laws.{ends-written, ends_are, summed-after, written_passes, passes_as_written}
use Rattle.coyote_packet.specs.declared.Packet.{Packet}
use Rattle.coyote_packet.specs.Layout.{start, end, low_first, front, sum_start, packet_bytes}
use Rattle.coyote_packet.specs.Read.{payload_start, overhead, payload_in, word_at, length_holds, read_payload, read_packet}
use Rattle.coyote_packet.proofs.Lengths.{packet_length_lem}

-- two bytes, low first, are the number
pub word_is : (n : ℕ) → n % 256 + 256 * (n / 256) ≡ n
word_is n = omega arith

module _ (type : ℕ) (payload : List ℕ) where
  pub payload-back : payload_in (packet_bytes type payload) ≡ payload
  unfolding packet_bytes
  payload-back =
      let n : length (packet_bytes type payload) - overhead ≡ length payload = omega (arith, packet_length_lem type payload) in
      ap (λ (k : ℕ). part payload_start k (packet_bytes type payload)) n ∙
      summed-after sum_start end (start ∷ type ∷ low_first (length payload)) payload

  ends_hold_lem : ends_hold start end (packet_bytes type payload) ≡ true
  unfolding packet_bytes
  ends_hold_lem = ends-written sum_start start end (type ∷ (low_first (length payload) ++ payload))

  length-holds : length_holds (packet_bytes type payload) ≡ true
  unfolding packet_bytes
  length-holds =
      eq-eqb (overhead + word_at (packet_bytes type payload) 2) (length (packet_bytes type payload))
      (omega (arith, word_is (length payload), packet_length_lem type payload))

  sum_holds_lem : sum_holds sum_start (packet_bytes type payload) ≡ true
  unfolding packet_bytes
  sum_holds_lem = written_passes sum_start end (front type payload)

  type-back : get_or (packet_bytes type payload) 1 0 ≡ type
  unfolding packet_bytes
  type-back = refl

  -- a packet is read as its payload is
  pub packet_read : read_packet (packet_bytes type payload) ≡ read_payload type payload
  unfolding read_packet
  packet_read = simp (ends_hold_lem, length-holds, sum_holds_lem, type-back, payload-back)

-- the front of a block, by its length bytes
front_of : (type : ℕ) (block : List ℕ) → Bytes block → overhead + word_at block 2 ≡ length block → get_or block 0 0 ≡ start → get_or block 1 0 ≡ type
    → take (length block - 2) block ≡ front type (payload_in block)
front_of type [] bytes l e t = absurd (omega arith)
front_of type (a ∷ []) bytes l e t = absurd (omega arith)
front_of type (a ∷ b ∷ []) bytes l e t = absurd (omega arith)
front_of type (a ∷ b ∷ c ∷ []) bytes l e t = absurd (omega arith)
front_of type (a ∷ b ∷ c ∷ d ∷ rest) bytes l e t =
    let n : length (a ∷ b ∷ c ∷ d ∷ rest) - 2 ≡ suc (suc (suc (suc (length rest - 2)))) = omega arith in
    let size : length (a ∷ b ∷ c ∷ d ∷ rest) - overhead ≡ length rest - 2 = omega arith in
    let long : length (take (length rest - 2) rest) ≡ c + 256 * d = length-take-le (length rest - 2) rest (omega arith) ∙ omega arith in
    let low : (c + 256 * d) % 256 ≡ c = omega (arith, bytes 2) in
    let high : (c + 256 * d) / 256 ≡ d = omega (arith, bytes 2) in
    rw (n, size, long, low, high, e, t)

-- a block that is read is the packet of its own payload
pub accepted_packet : (block : List ℕ) (p : Packet) → Bytes block → read_packet block ≡ accepted p
    → (block ≡ packet_bytes (get_or block 1 0) (payload_in block)) × (read_payload (get_or block 1 0) (payload_in block) ≡ accepted p)
unfolding read_packet packet_bytes
accepted_packet block p bytes e =
    let a = else_refused (ends_hold start end block) _ _ p e in
    let b = else_refused (length_holds block) _ _ p a.1 in
    let c = else_refused (sum_holds sum_start block) _ _ p b.1 in
    let ends = ends_are start end block a.0 in
    let size = eqb-true (overhead + word_at block 2) (length block) b.0 in
    let whole = passes_as_written sum_start block c.0 in
    let before = front_of (get_or block 1 0) block bytes size ends.0 refl in
    (whole ∙ ap (λ (z : ℕ). summed sum_start z (take (length block - 2) block)) ends.1 ∙ ap (summed sum_start end) before, c.1)
