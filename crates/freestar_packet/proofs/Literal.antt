-- Messages byte by byte, and blocks and data with two faults: the refusal that comes first is given. So a wrong layout, list of types, limit or order
-- is refused here.
-- Assumes nothing.
use mathlib.Core.Path.{◌≡◌, refl}
use mathlib.Core.List.{[], ◌∷◌}
use Rattle.refusal.specs.Refusal.{accepted, refused}
use Rattle.checksum.specs.Checksum.{byte_sum}
use Rattle.freestar_packet.specs.Layout.{fits_in, packet_bytes}
use Rattle.freestar_packet.specs.Read.{read_frame, read_packet, content, read_content}
use Rattle.freestar_packet.specs.Encode.{encode}

-- 004's Query PAN ID with its printed sum, and both addresses as they are answered
pub query-bytes : packet_bytes 0x02 [] ≡ 0x01 ∷ 0x05 ∷ 0x02 ∷ 0x08 ∷ 0x04 ∷ []
unfolding byte_sum packet_bytes
query-bytes = refl

pub address_read :
    read_content (0x01 ∷ 0x0F ∷ 0x84 ∷ 0x01 ∷ 0x02 ∷ 0x03 ∷ 0x04 ∷ 0x05 ∷ 0x06 ∷ 0x07 ∷ 0x08 ∷ 0x09 ∷ 0x0A ∷ 0xCB ∷ 0x04 ∷ [])
    ≡ accepted (content 0x84 (0x01 ∷ 0x02 ∷ 0x03 ∷ 0x04 ∷ 0x05 ∷ 0x06 ∷ 0x07 ∷ 0x08 ∷ 0x09 ∷ 0x0A ∷ []))
unfolding byte_sum fits_in read_frame read_packet
address_read = refl

-- the last byte and the length
pub ends-first : read_packet (0x01 ∷ 0x06 ∷ 0x02 ∷ 0x08 ∷ 0x05 ∷ []) ≡ refused 24
unfolding read_frame read_packet
ends-first = refl

-- the length and the sum, and a total under 5 that is the block's length
pub length-first : read_packet (0x01 ∷ 0x06 ∷ 0x02 ∷ 0x08 ∷ 0x04 ∷ []) ≡ refused 25
unfolding byte_sum read_frame read_packet
length-first = refl

pub four_bytes : read_packet (0x01 ∷ 0x04 ∷ 0x02 ∷ 0x04 ∷ []) ≡ refused 25
unfolding byte_sum read_frame read_packet
four_bytes = refl

-- the sum and the type
pub sum_first : read_packet (0x01 ∷ 0x05 ∷ 0x07 ∷ 0x0C ∷ 0x04 ∷ []) ≡ refused 26
unfolding byte_sum fits_in read_frame read_packet
sum_first = refl

-- the length of the data and the PAN ID
pub content-first : read_packet (0x01 ∷ 0x08 ∷ 0x01 ∷ 0x00 ∷ 0x40 ∷ 0x00 ∷ 0x4A ∷ 0x04 ∷ []) ≡ refused 27
unfolding byte_sum fits_in read_frame read_packet
content-first = refl

-- a PAN ID of 16,384, and the largest that has 14 bits
pub pan_id_over_lem : read_packet (0x01 ∷ 0x07 ∷ 0x01 ∷ 0x00 ∷ 0x40 ∷ 0x49 ∷ 0x04 ∷ []) ≡ refused 28
unfolding byte_sum fits_in read_frame read_packet
pan_id_over_lem = refl

pub pan_id_most : read_content (0x01 ∷ 0x07 ∷ 0x01 ∷ 0xFF ∷ 0x3F ∷ 0x47 ∷ 0x04 ∷ []) ≡ accepted (content 0x01 (0xFF ∷ 0x3F ∷ []))
unfolding byte_sum fits_in read_frame read_packet
pan_id_most = refl

-- of the writer: the PAN ID and the room
pub pan_id_first : encode 0x01 (0x00 ∷ 0x40 ∷ []) 6 ≡ refused 28
unfolding fits_in packet_bytes encode
pan_id_first = refl
