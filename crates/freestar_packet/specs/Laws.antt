-- Document 02, Ask 11: what reader, writer and layout are to each other. The statements alone; `proofs/Frame.antt` and `proofs/Laws.antt`
-- prove them.
use Rattle.std.specs.Prelude.{ℕ, ◌+◌, ◌≤◌, ◌≡◌, true, List, length, take}
use Rattle.logic.specs.Lists.{part}
use Rattle.refusal.specs.Refusal.{accepted, outcome_of, buffer_after}
use Rattle.freestar_packet.specs.declared.Message.{Message}
use Rattle.freestar_packet.specs.Layout.{start_of_data, packet_bytes, is_accepted}
use Rattle.freestar_packet.specs.Read.{read_packet, content, read_content}
use Rattle.freestar_packet.specs.Encode.{encode}

-- the packet of an accepted message is read as exactly that
abbrev pub ReadBack : Type 0
ReadBack = (type : ℕ) (bytes : List ℕ) → is_accepted type bytes ≡ true → read_content (packet_bytes type bytes) ≡ accepted (content type bytes)

-- and what is not accepted is not read as itself
abbrev pub ReadBackOnly : Type 0
ReadBackOnly =
    (type : ℕ) (bytes : List ℕ) → read_content (packet_bytes type bytes) ≡ accepted (content type bytes) → is_accepted type bytes ≡ true

-- the most bytes of data
abbrev pub data_max : ℕ
data_max = 10

-- a block that is read is exactly the packet of what it says, a writer accepts that, and the data lie in the block
pub record LaidOut (block : List ℕ) (m : Message) : Type 0 where
  pub message-accepted : is_accepted m.kind (part start_of_data m.data_length block) ≡ true
  pub packet_is : block ≡ packet_bytes m.kind (part start_of_data m.data_length block)
  pub data_within : start_of_data + m.data_length ≤ length block
  pub data_small : m.data_length ≤ data_max

abbrev pub ReadIsLaidOut : Type 0
ReadIsLaidOut = (block : List ℕ) (m : Message) → read_packet block ≡ accepted m → LaidOut block m

-- what a writer leaves at the front of a buffer, as many bytes as it returns, is read as exactly what was written
abbrev pub WrittenIsRead : Type 0
WrittenIsRead =
    (type : ℕ) (bytes buffer packet : List ℕ)
    → encode type bytes (length buffer) ≡ accepted packet
    → read_content (take (outcome_of (encode type bytes (length buffer))).length (buffer_after (encode type bytes (length buffer)) buffer))
    ≡ accepted (content type bytes)

-- what is read, written again, is the same block
abbrev pub ReadIsWritten : Type 0
ReadIsWritten =
    (block : List ℕ) (m : Message) (room : ℕ)
    → read_packet block ≡ accepted m
    → length block ≤ room
    → encode m.kind (part start_of_data m.data_length block) room ≡ accepted block
