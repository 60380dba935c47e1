-- Document 02, Ask 11, refusals 24 to 28: what a block is as a message, in the order of the refusals.
use Rattle.std.specs.Prelude.{ℕ, ◌-◌, Bool, cond, ◌&&◌, List, eqb, leb, length, get_or}
use Rattle.logic.specs.Lists.{part}
use Rattle.refusal.specs.Refusal.{Result, accepted, refused, and_then, packet_ends, packet_length, packet_sum, packet_content, pan_id_over}
use Rattle.checksum.specs.Checksum.{sum_holds, ends_hold}
use Rattle.freestar_packet.specs.declared.Message.{Message}
use Rattle.freestar_packet.specs.Layout.{start, end, types, fits_in, overhead, start_of_data, sum_start, pan_id_holds}

-- 25: the length byte against the block, "also for a total under 5"
abbrev pub length_holds : List ℕ → Bool
length_holds block = leb overhead (length block) && eqb (get_or block 1 0) (length block)

-- the bytes of a block that are data
abbrev pub data_in : List ℕ → List ℕ
data_in block = part start_of_data (length block - overhead) block

-- the type of a block, and how many bytes of data it has
abbrev pub message_of : List ℕ → Message
message_of block = record { kind = get_or block 2 0; data_length = length block - overhead }

-- a block is one packet, of whatever type: 24, 25, 26 in this order
unfoldable pub read_frame : List ℕ → Result Message
read_frame block =
    cond (ends_hold start end block)
    (cond (length_holds block)
    (cond (sum_holds sum_start block) (accepted (message_of block)) (refused packet_sum))
    (refused packet_length))
    (refused packet_ends)

-- what a message may hold, for reader and writer: 27, then 28
abbrev pub validated : {A : Type 0} → (type : ℕ) (bytes : List ℕ) → A → Result A
validated type bytes x =
    cond (fits_in types type (length bytes)) (cond (pan_id_holds type bytes) (accepted x) (refused pan_id_over)) (refused packet_content)

-- a block is one message of the fourteen types: 24, 25, 26, 27, 28 in this order
unfoldable pub read_packet : List ℕ → Result Message
read_packet block = and_then (read_frame block) (λ m. validated m.kind (data_in block) m)

-- what a message says: its type and its data
pub data Content : Type 0 where
  content : (type : ℕ) (bytes : List ℕ) → Content

-- that of a message that was read, by the bytes of its block
abbrev pub content_in : List ℕ → Message → Content
content_in block m = content m.kind (part start_of_data m.data_length block)

abbrev pub read_content : List ℕ → Result Content
read_content block = and_then (read_packet block) (λ m. accepted (content_in block m))
