-- How long packets and payloads are.
-- Assumes nothing.
use Prim.Native.Nat.{ℕ, ◌+◌}
use mathlib.Core.Path.{◌≡◌}
use mathlib.Core.List.{List, ◌∷◌, ◌++◌}
use native.Mathlib.Omega.{arith}
use lib.ListN.{length, length-append}
use Rattle.checksum.proofs.Laws.{summed-length}
use Rattle.coyote_packet.specs.Layout.{end, low_first, front, sum_start, packet_bytes, addressed, targets_end, payload_of}
use Rattle.coyote_packet.specs.Read.{overhead}

pub packet_length_lem : (type : ℕ) (payload : List ℕ) → length (packet_bytes type payload) ≡ length payload + overhead
unfolding packet_bytes
packet_length_lem type payload = omega (arith, summed-length sum_start end (front type payload))

pub addressed-length : (type group address : ℕ) (targets bytes : List ℕ) → length (payload_of (addressed type group address targets bytes)) ≡ 5 + length targets + length bytes
unfolding payload_of
addressed-length type group address targets bytes = omega (arith, length-append targets (targets_end ∷ (low_first (length bytes) ++ bytes)))
