-- 003's "Hello" byte by byte, and blocks with two faults: the refusal that comes first is given. So a wrong layout or order is refused here.
-- Assumes nothing.
use mathlib.Core.Path.{◌≡◌, refl}
use mathlib.Core.List.{[], ◌∷◌}
use Rattle.refusal.specs.Refusal.{refused}
use Rattle.checksum.specs.Checksum.{byte_sum}
use Rattle.coyote_packet.specs.Layout.{packet_bytes, addressed, payload_of, message_bytes}
use Rattle.coyote_packet.specs.Read.{read_payload, read_packet}

pub hello-bytes : message_bytes (addressed 0x00 0x01 0x02 (0x01 ∷ 0x03 ∷ []) (0x48 ∷ 0x65 ∷ 0x6C ∷ 0x6C ∷ 0x6F ∷ []))
    ≡ 0xAA ∷ 0x00 ∷ 0x0C ∷ 0x00 ∷ 0x01 ∷ 0x02 ∷ 0x01 ∷ 0x03 ∷ 0x80 ∷ 0x05 ∷ 0x00 ∷ 0x48 ∷ 0x65 ∷ 0x6C ∷ 0x6C ∷ 0x6F ∷ 0x8C ∷ 0x55 ∷ []
unfolding byte_sum packet_bytes payload_of
hello-bytes = refl

-- the last byte and the length
pub ends-first : read_packet (0xAA ∷ 0x83 ∷ 0x01 ∷ 0x00 ∷ 0x84 ∷ 0x54 ∷ []) ≡ refused 24
unfolding read_packet
ends-first = refl

-- the length and the sum
pub length-first : read_packet (0xAA ∷ 0x83 ∷ 0x01 ∷ 0x00 ∷ 0x83 ∷ 0x55 ∷ []) ≡ refused 25
unfolding byte_sum read_packet
length-first = refl

-- the sum and the type
pub sum_first : read_packet (0xAA ∷ 0x83 ∷ 0x00 ∷ 0x00 ∷ 0x84 ∷ 0x55 ∷ []) ≡ refused 26
unfolding byte_sum read_payload read_packet
sum_first = refl
