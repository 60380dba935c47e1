-- Document 02, Ask 10: the packet that a writer writes for a message.
use Rattle.std.specs.Prelude.{ℕ, cond, List, ltb, length}
use Rattle.std.specs.Borrow.{Bor}
use Rattle.std.specs.List.{flat_map}
use Rattle.refusal.specs.Refusal.{Result, accepted, refused, frame_buffer_short, packet_content}
use Rattle.coyote_packet.specs.Layout.{Message, message_bytes, is_accepted}

-- "27 .. 13 a writer's buffer too short; in that order": 13 is last, and goes by the length of this packet
unfoldable pub encode : Message → (room : ℕ) → Result (List ℕ)
encode m room =
    cond (is_accepted m)
    (cond (ltb room (length (message_bytes m))) (refused frame_buffer_short) (accepted (message_bytes m)))
    (refused packet_content)

-- the bytes of parts that lie one after the other
abbrev pub joined : List (Bor (List ℕ)) → List ℕ
joined parts = flat_map (λ part. part.now) parts

-- as many bytes as two bytes can tell
abbrev pub payload_max : ℕ
payload_max = 0xFFFF
