-- Document 02, Ask 10: what writers and the reader are to each other. The statements alone; their proofs are in `proofs/Laws.antt`.
use Rattle.std.specs.Prelude.{ℕ, ◌≤◌, ◌≡◌, List, length, take}
use Rattle.logic.specs.Lists.{Bytes}
use Rattle.refusal.specs.Refusal.{accepted, outcome_of, buffer_after}
use Rattle.coyote_packet.specs.declared.Packet.{Packet}
use Rattle.coyote_packet.specs.Layout.{Message}
use Rattle.coyote_packet.specs.Read.{message_in, read_packet, read_message}
use Rattle.coyote_encode.specs.Encode.{encode}

-- what a writer leaves at the front of a buffer, as many bytes as it tells, is read as exactly what was written
abbrev pub WrittenIsRead : Type 0
WrittenIsRead =
    (m : Message) (buffer bytes : List ℕ)
    → encode m (length buffer) ≡ accepted bytes
    → read_message (take (outcome_of (encode m (length buffer))).length (buffer_after (encode m (length buffer)) buffer)) ≡ accepted m

-- what is read, written again, is the same block
abbrev pub ReadIsWritten : Type 0
ReadIsWritten =
    (block : List ℕ) (p : Packet) (room : ℕ)
    → Bytes block
    → read_packet block ≡ accepted p
    → length block ≤ room
    → encode (message_in block p) room ≡ accepted block
