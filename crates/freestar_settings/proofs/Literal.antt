-- Messages on literal settings, byte by byte. So a wrong list of types, order of the addresses or step is refused here.
-- Assumes nothing.
use mathlib.Core.Path.{◌≡◌, refl}
use mathlib.Core.List.{[], ◌∷◌}
use Rattle.refusal.specs.Refusal.{accepted, refused}
use Rattle.checksum.specs.Checksum.{byte_sum}
use Rattle.freestar_packet.specs.Layout.{fits_in, packet_bytes}
use Rattle.freestar_packet.specs.Read.{read_frame}
use Rattle.freestar_model.specs.Model.{delivery}
use Rattle.freestar_settings.specs.declared.Settings.{Settings}
use Rattle.freestar_settings.specs.Settings.{settings, answer, stored, validate, result_of, step}

abbrev some : Settings
some = settings (0x11 ∷ 0x22 ∷ []) (0xA1 ∷ 0xA2 ∷ 0xA3 ∷ 0xA4 ∷ 0xA5 ∷ 0xA6 ∷ 0xA7 ∷ 0xA8 ∷ []) (0xB1 ∷ 0xB2 ∷ []) 0x0B

-- a type that the radio sends
pub answer-type : result_of some (delivery (0x01 ∷ 0x05 ∷ 0x81 ∷ 0x87 ∷ 0x04 ∷ []) 20) ≡ refused 27
unfolding byte_sum fits_in packet_bytes read_frame answer validate result_of
answer-type = refl

-- a PAN ID of 16,384 in the settings, with no room for the answer to a reset, and to a set of another PAN ID
abbrev over : Settings
over = settings (0x00 ∷ 0x40 ∷ []) (0xA1 ∷ 0xA2 ∷ 0xA3 ∷ 0xA4 ∷ 0xA5 ∷ 0xA6 ∷ 0xA7 ∷ 0xA8 ∷ []) (0xB1 ∷ 0xB2 ∷ []) 0x0B

pub over-refused :
    (result_of over (delivery (0x01 ∷ 0x05 ∷ 0x18 ∷ 0x1E ∷ 0x04 ∷ []) 0) ≡ refused 28)
    × (result_of over (delivery (0x01 ∷ 0x07 ∷ 0x01 ∷ 0x34 ∷ 0x12 ∷ 0x4F ∷ 0x04 ∷ []) 5) ≡ refused 28)
unfolding byte_sum fits_in packet_bytes read_frame answer validate result_of
over-refused = (refl, refl)

-- a set of the channel that there is no room to answer
pub no_room : step some (delivery (0x01 ∷ 0x06 ∷ 0x05 ∷ 0x0C ∷ 0x18 ∷ 0x04 ∷ []) 4) ≡ some
unfolding byte_sum fits_in packet_bytes read_frame answer stored validate result_of step
no_room = refl

-- the addresses as they are answered
pub addresses-answered :
    result_of some (delivery (0x01 ∷ 0x05 ∷ 0x04 ∷ 0x0A ∷ 0x04 ∷ []) 15)
    ≡ accepted (0x01 ∷ 0x0F ∷ 0x84 ∷ 0xA1 ∷ 0xA2 ∷ 0xA3 ∷ 0xA4 ∷ 0xA5 ∷ 0xA6 ∷ 0xA7 ∷ 0xA8 ∷ 0xB1 ∷ 0xB2 ∷ 0x1B ∷ 0x04 ∷ [])
unfolding byte_sum fits_in packet_bytes read_frame answer validate result_of
addresses-answered = refl
