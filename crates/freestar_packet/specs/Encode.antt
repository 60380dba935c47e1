-- Document 02, Ask 11: the packet that a writer writes for a type and data.
use Rattle.std.specs.Prelude.{ℕ, List}
use Rattle.refusal.specs.Refusal.{Result, and_then}
use Rattle.refusal.specs.Numbers.{in_room}
use Rattle.freestar_packet.specs.Layout.{packet_bytes}
use Rattle.freestar_packet.specs.Read.{validated}

-- "28 before 13": 27, 28, 13 in this order, 13 by the length of this packet
unfoldable pub encode : (type : ℕ) (bytes : List ℕ) (room : ℕ) → Result (List ℕ)
encode type bytes room = and_then (validated type bytes (packet_bytes type bytes)) (in_room room)
