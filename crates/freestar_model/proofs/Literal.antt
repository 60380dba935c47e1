-- Messages run through the model, byte by byte: what each is answered with, from cells that hold other bytes in each place, and what it leaves in the
-- cells. So a wrong table or a wrong order of the addresses is refused here.
-- Assumes nothing.
use Prim.Native.Nat.{ℕ}
use mathlib.Core.Path.{◌≡◌, refl}
use mathlib.Core.List.{List, [], ◌∷◌}
use Rattle.sequence.specs.Model.{after, results}
use Rattle.refusal.specs.Refusal.{Result, accepted, refused}
use Rattle.checksum.specs.Checksum.{byte_sum}
use Rattle.freestar_packet.specs.Layout.{fits_in, packet_bytes}
use Rattle.freestar_packet.specs.Read.{read_frame}
use Rattle.freestar_model.specs.Cells.{Cell, pan_id_cell, long_address_cell, short_address_cell, channel}
use Rattle.freestar_model.specs.Model.{Delivery, delivery, decide, model}

-- what the cells hold at first
abbrev held : Cell → List ℕ
held pan_id_cell = 0x11 ∷ 0x22 ∷ []
held long_address_cell = 0xA1 ∷ 0xA2 ∷ 0xA3 ∷ 0xA4 ∷ 0xA5 ∷ 0xA6 ∷ 0xA7 ∷ 0xA8 ∷ []
held short_address_cell = 0xB1 ∷ 0xB2 ∷ []
held channel = 0x0B ∷ []

-- each query, then each set, a reset and each query again; an answer's type and a set with no room for its answer change nothing
abbrev messages : List Delivery
messages =
    delivery (0x01 ∷ 0x05 ∷ 0x02 ∷ 0x08 ∷ 0x04 ∷ []) 7 ∷
    delivery (0x01 ∷ 0x05 ∷ 0x04 ∷ 0x0A ∷ 0x04 ∷ []) 15 ∷
    delivery (0x01 ∷ 0x05 ∷ 0x06 ∷ 0x0C ∷ 0x04 ∷ []) 6 ∷
    delivery (0x01 ∷ 0x07 ∷ 0x01 ∷ 0x34 ∷ 0x12 ∷ 0x4F ∷ 0x04 ∷ []) 5 ∷
    delivery (0x01 ∷ 0x0F ∷ 0x03 ∷ 0x01 ∷ 0x02 ∷ 0x03 ∷ 0x04 ∷ 0x05 ∷ 0x06 ∷ 0x07 ∷ 0x08 ∷ 0x09 ∷ 0x0A ∷ 0x4A ∷ 0x04 ∷ []) 5 ∷
    delivery (0x01 ∷ 0x06 ∷ 0x05 ∷ 0xFF ∷ 0x0B ∷ 0x04 ∷ []) 5 ∷
    delivery (0x01 ∷ 0x06 ∷ 0x05 ∷ 0x0C ∷ 0x18 ∷ 0x04 ∷ []) 4 ∷
    delivery (0x01 ∷ 0x05 ∷ 0x81 ∷ 0x87 ∷ 0x04 ∷ []) 20 ∷
    delivery (0x01 ∷ 0x05 ∷ 0x18 ∷ 0x1E ∷ 0x04 ∷ []) 5 ∷
    delivery (0x01 ∷ 0x05 ∷ 0x02 ∷ 0x08 ∷ 0x04 ∷ []) 7 ∷
    delivery (0x01 ∷ 0x05 ∷ 0x04 ∷ 0x0A ∷ 0x04 ∷ []) 15 ∷
    delivery (0x01 ∷ 0x05 ∷ 0x06 ∷ 0x0C ∷ 0x04 ∷ []) 6 ∷
    []

abbrev answers : List (Result (List ℕ))
answers =
    accepted (0x01 ∷ 0x07 ∷ 0x82 ∷ 0x11 ∷ 0x22 ∷ 0xBD ∷ 0x04 ∷ []) ∷
    accepted (0x01 ∷ 0x0F ∷ 0x84 ∷ 0xA1 ∷ 0xA2 ∷ 0xA3 ∷ 0xA4 ∷ 0xA5 ∷ 0xA6 ∷ 0xA7 ∷ 0xA8 ∷ 0xB1 ∷ 0xB2 ∷ 0x1B ∷ 0x04 ∷ []) ∷
    accepted (0x01 ∷ 0x06 ∷ 0x86 ∷ 0x0B ∷ 0x98 ∷ 0x04 ∷ []) ∷
    accepted (0x01 ∷ 0x05 ∷ 0x81 ∷ 0x87 ∷ 0x04 ∷ []) ∷
    accepted (0x01 ∷ 0x05 ∷ 0x83 ∷ 0x89 ∷ 0x04 ∷ []) ∷
    accepted (0x01 ∷ 0x05 ∷ 0x85 ∷ 0x8B ∷ 0x04 ∷ []) ∷
    refused 13 ∷
    refused 27 ∷
    accepted (0x01 ∷ 0x05 ∷ 0x98 ∷ 0x9E ∷ 0x04 ∷ []) ∷
    accepted (0x01 ∷ 0x07 ∷ 0x82 ∷ 0x34 ∷ 0x12 ∷ 0xD0 ∷ 0x04 ∷ []) ∷
    accepted (0x01 ∷ 0x0F ∷ 0x84 ∷ 0x01 ∷ 0x02 ∷ 0x03 ∷ 0x04 ∷ 0x05 ∷ 0x06 ∷ 0x07 ∷ 0x08 ∷ 0x09 ∷ 0x0A ∷ 0xCB ∷ 0x04 ∷ []) ∷
    accepted (0x01 ∷ 0x06 ∷ 0x86 ∷ 0xFF ∷ 0x8C ∷ 0x04 ∷ []) ∷
    []

pub answers_hold : results model held messages ≡ answers
unfolding results byte_sum fits_in packet_bytes read_frame decide
answers_hold = refl

-- the cells after all of them: the short address is the last two bytes of message 03
pub cells_hold :
    (after model held messages pan_id_cell ≡ 0x34 ∷ 0x12 ∷ [])
    × (after model held messages long_address_cell ≡ 0x01 ∷ 0x02 ∷ 0x03 ∷ 0x04 ∷ 0x05 ∷ 0x06 ∷ 0x07 ∷ 0x08 ∷ [])
    × (after model held messages short_address_cell ≡ 0x09 ∷ 0x0A ∷ [])
    × (after model held messages channel ≡ 0xFF ∷ [])
unfolding after byte_sum fits_in packet_bytes read_frame decide
cells_hold = (refl, refl, refl, refl)

-- a PAN ID of 16,384 in its cell: no message is accepted, whatever the room
abbrev held_over : Cell → List ℕ
held_over pan_id_cell = 0x00 ∷ 0x40 ∷ []
held_over long_address_cell = held long_address_cell
held_over short_address_cell = held short_address_cell
held_over channel = held channel

pub over-refused :
    results model held_over (delivery (0x01 ∷ 0x05 ∷ 0x18 ∷ 0x1E ∷ 0x04 ∷ []) 0 ∷ delivery (0x01 ∷ 0x07 ∷ 0x01 ∷ 0x34 ∷ 0x12 ∷ 0x4F ∷ 0x04 ∷ []) 5 ∷ [])
    ≡ refused 28 ∷ refused 28 ∷ []
unfolding results byte_sum fits_in packet_bytes read_frame decide
over-refused = refl
