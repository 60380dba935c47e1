-- Sentences about messages. Each is drawn from a law of the crates below and is stated in numbers, so a law that is made weaker no longer gives its
-- sentence.
use Rattle.std.specs.Prelude.{ℕ, ◌+◌, ◌*◌, ◌<◌, ◌≤◌, ◌≡◌, true, false, List, [], ◌∷◌, ◌++◌, map, eqb, length, get_or, take, Ok}
use Rattle.std.specs.Prelude as std
use Rattle.logic.specs.Lists.{any}
use Rattle.refusal.specs.declared.Refusal.{Refusal}
use Rattle.refusal.specs.Refusal.{Result, accepted, refused, refusal_of, buffer_after}
use Rattle.refusal.specs.Numbers.{answer}
use Rattle.sequence.specs.Model.{Apart}
use Rattle.sequence.specs.Machine.{run, results}
use Rattle.freestar_packet.specs.declared.Message.{Message}
use Rattle.freestar_packet.specs.Layout.{packet_bytes, is_accepted, pan_id_fits}
use Rattle.freestar_packet.specs.Read.{read_packet, content, read_content}
use Rattle.freestar_packet.specs.Encode.{encode}
use Rattle.freestar_model.specs.Cells.{Cell, pan_id_cell, long_address_cell, short_address_cell, channel}
use Rattle.freestar_model.specs.Model.{Delivery, delivery, model}
use Rattle.freestar_settings.specs.declared.Settings.{Settings}
use Rattle.freestar_settings.specs.Settings.{ArrayLengths, settings, step, result_of}
use Rattle.freestar_sequence.specs.Machine.{cells, machine}
use Rattle.freestar_examples.specs.Examples.{unwritten, three, over}

-- both addresses, and the answer that has them
abbrev pub addresses : List ℕ
addresses = 0x01 ∷ 0x02 ∷ 0x03 ∷ 0x04 ∷ 0x05 ∷ 0x06 ∷ 0x07 ∷ 0x08 ∷ 0x09 ∷ 0x0A ∷ []

abbrev pub address_block : List ℕ
address_block = 0x01 ∷ 0x0F ∷ 0x84 ∷ 0x01 ∷ 0x02 ∷ 0x03 ∷ 0x04 ∷ 0x05 ∷ 0x06 ∷ 0x07 ∷ 0x08 ∷ 0x09 ∷ 0x0A ∷ 0xCB ∷ 0x04 ∷ []

-- messages: the PAN ID 2211, the addresses in the other order, the channel 0C; each of the queries; a reset
abbrev pub set_pan : List ℕ
set_pan = 0x01 ∷ 0x07 ∷ 0x01 ∷ 0x11 ∷ 0x22 ∷ 0x3C ∷ 0x04 ∷ []

abbrev pub set_addresses : List ℕ
set_addresses = 0x01 ∷ 0x0F ∷ 0x03 ∷ 0x0A ∷ 0x09 ∷ 0x08 ∷ 0x07 ∷ 0x06 ∷ 0x05 ∷ 0x04 ∷ 0x03 ∷ 0x02 ∷ 0x01 ∷ 0x4A ∷ 0x04 ∷ []

abbrev pub set_channel : List ℕ
set_channel = 0x01 ∷ 0x06 ∷ 0x05 ∷ 0x0C ∷ 0x18 ∷ 0x04 ∷ []

abbrev pub ask_pan : List ℕ
ask_pan = 0x01 ∷ 0x05 ∷ 0x02 ∷ 0x08 ∷ 0x04 ∷ []

abbrev pub ask_addresses : List ℕ
ask_addresses = 0x01 ∷ 0x05 ∷ 0x04 ∷ 0x0A ∷ 0x04 ∷ []

abbrev pub ask_channel : List ℕ
ask_channel = 0x01 ∷ 0x05 ∷ 0x06 ∷ 0x0C ∷ 0x04 ∷ []

abbrev pub reset_radio : List ℕ
reset_radio = 0x01 ∷ 0x05 ∷ 0x18 ∷ 0x1E ∷ 0x04 ∷ []

-- the channel is set, set to 0D with a wrong sum, set to 0E with no room for the answer, and the PAN ID is set
abbrev pub damaged : Delivery
damaged = delivery (0x01 ∷ 0x06 ∷ 0x05 ∷ 0x0D ∷ 0x18 ∷ 0x04 ∷ []) 5

abbrev pub evening : List Delivery
evening =
    delivery set_channel 5 ∷
    damaged ∷
    delivery (0x01 ∷ 0x06 ∷ 0x05 ∷ 0x0E ∷ 0x1A ∷ 0x04 ∷ []) 4 ∷
    delivery set_pan 5 ∷
    []

-- no message of a sequence has the type
abbrev pub Without : ℕ → List Delivery → Type 0
Without type xs = (before : List Delivery) (x : Delivery) (rest : List Delivery) → xs ≡ before ++ x ∷ rest → get_or x.block 2 0 ≡ type → ⊥

-- after an accepted set, from any settings, and any sequence of messages without its type, the query is answered with the packet
abbrev pub Told : (set ask packet : List ℕ) (type : ℕ) → Type 0
Told set ask packet type =
    (s : Settings) (before between : List Delivery) (n m : ℕ) (done answer : List ℕ)
    → ArrayLengths s
    → result_of (run model machine s before) (delivery set n) ≡ accepted done
    → Without type between
    → result_of (run model machine s (before ++ delivery set n ∷ between)) (delivery ask m) ≡ accepted answer
    → answer ≡ packet

-- the state after a sequence from the settings `three`
abbrev pub after : List Delivery → Settings
after xs = run model machine three xs

pub record Sentences : Type 0 where
  -- every channel, every two addresses and every PAN ID of 14 bits are read back
  pub any-channel : (b : ℕ) → read_content (packet_bytes 0x05 (b ∷ [])) ≡ accepted (content 0x05 (b ∷ []))
  pub any-address : (bytes : List ℕ) → length bytes ≡ 10 → read_content (packet_bytes 0x03 bytes) ≡ accepted (content 0x03 bytes)
  pub any_pan_id : (low high : ℕ) → low + 256 * high < 16384 → read_content (packet_bytes 0x82 (low ∷ high ∷ [])) ≡ accepted (content 0x82 (low ∷ high ∷ []))
  -- a PAN ID of 16,384 is not, nor is a query with data or a type that is not served
  pub no_pan_id : read_content (packet_bytes 0x01 (0x00 ∷ 0x40 ∷ [])) ≡ accepted (content 0x01 (0x00 ∷ 0x40 ∷ [])) → ⊥
  pub no_data : read_content (packet_bytes 0x02 (0x00 ∷ [])) ≡ accepted (content 0x02 (0x00 ∷ [])) → ⊥
  pub no_type : (bytes : List ℕ) → read_content (packet_bytes 0x07 bytes) ≡ accepted (content 0x07 bytes) → ⊥
  -- the block is the packet of what it says, which a writer accepts; its ten bytes of data lie in its fifteen bytes
  pub address-accepted : is_accepted 0x84 addresses ≡ true
  pub address_packet : address_block ≡ packet_bytes 0x84 addresses
  pub address-place : 3 + 10 ≤ 15
  pub address_small : 10 ≤ 10
  pub set_packet : set_pan ≡ packet_bytes 0x01 (0x11 ∷ 0x22 ∷ [])
  -- the contract of the reader leaves one answer
  pub one_answer : (r : std.Result Message Refusal) → answer r ≡ read_packet address_block → r ≡ Ok (record { kind = 0x84; data_length = 10 })
  -- what a writer leaves at the front of a buffer is read as what was written, and what was read is written again as the block
  pub in_buffer : read_content (take 15 (buffer_after (encode 0x84 addresses 20) (unwritten 20))) ≡ accepted (content 0x84 addresses)
  pub any-channel_in-buffer : (b : ℕ) → read_content (take 6 (buffer_after (encode 0x05 (b ∷ []) 20) (unwritten 20))) ≡ accepted (content 0x05 (b ∷ []))
  pub set-again : encode 0x01 (0x11 ∷ 0x22 ∷ []) 7 ≡ accepted set_pan
  pub again : (encode 0x84 addresses 15 ≡ accepted address_block) × (encode 0x84 addresses 20 ≡ accepted address_block)
  -- the reader refuses with 24 to 28 alone, the writer with 27, 28 and 13, and a message with these six
  pub reader_numbers : (block : List ℕ) (n : ℕ) → read_packet block ≡ refused n → any (eqb n) (24 ∷ 25 ∷ 26 ∷ 27 ∷ 28 ∷ []) ≡ true
  pub writer_numbers : (type : ℕ) (bytes : List ℕ) (room n : ℕ) → encode type bytes room ≡ refused n → any (eqb n) (27 ∷ 28 ∷ 13 ∷ []) ≡ true
  pub message-numbers : (s : Settings) (x : Delivery) (n : ℕ) → result_of s x ≡ refused n → any (eqb n) (24 ∷ 25 ∷ 26 ∷ 27 ∷ 28 ∷ 13 ∷ []) ≡ true
  -- the answer to a query, at the front of a buffer, is read as the answer with what is set
  pub address-told : read_content (take 15 (buffer_after (result_of three (delivery ask_addresses 20)) (unwritten 20))) ≡ accepted (content 0x84 addresses)
  pub channel-told : (b : ℕ) (packet : List ℕ) → result_of (settings (0x34 ∷ 0x12 ∷ []) (take 8 addresses) (0x09 ∷ 0x0A ∷ []) b) (delivery ask_channel 6) ≡ accepted packet
      → read_content (take (length packet) (buffer_after (accepted packet) (unwritten 6))) ≡ accepted (content 0x86 (b ∷ []))
  pub set-acknowledged : read_content (take 5 (buffer_after (result_of three (delivery set_pan 20)) (unwritten 20))) ≡ accepted (content 0x81 [])
  -- after an evening the channel is the one of the last set that was accepted, the PAN ID the new one, and the addresses are the first ones
  pub last-channel : (packet : List ℕ) → result_of (after evening) (delivery ask_channel 6) ≡ accepted packet → packet ≡ 0x01 ∷ 0x06 ∷ 0x86 ∷ 0x0C ∷ 0x99 ∷ 0x04 ∷ []
  pub last_pan_id : (packet : List ℕ) → result_of (after evening) (delivery ask_pan 7) ≡ accepted packet → packet ≡ 0x01 ∷ 0x07 ∷ 0x82 ∷ 0x11 ∷ 0x22 ∷ 0xBD ∷ 0x04 ∷ []
  pub first-addresses : (packet : List ℕ) → result_of (after evening) (delivery ask_addresses 15) ≡ accepted packet → packet ≡ address_block
  -- what was set is answered, whatever comes between that has another type
  pub pan_id_told : Told set_pan ask_pan (0x01 ∷ 0x07 ∷ 0x82 ∷ 0x11 ∷ 0x22 ∷ 0xBD ∷ 0x04 ∷ []) 0x01
  pub addresses-told : Told set_addresses ask_addresses (0x01 ∷ 0x0F ∷ 0x84 ∷ 0x0A ∷ 0x09 ∷ 0x08 ∷ 0x07 ∷ 0x06 ∷ 0x05 ∷ 0x04 ∷ 0x03 ∷ 0x02 ∷ 0x01 ∷ 0xCB ∷ 0x04 ∷ []) 0x03
  pub set-channel-told : Told set_channel ask_channel (0x01 ∷ 0x06 ∷ 0x86 ∷ 0x0C ∷ 0x99 ∷ 0x04 ∷ []) 0x05
  -- and whatever is refused between, also a set of it
  pub damaged-between : (packet : List ℕ) → result_of (after (delivery set_channel 5 ∷ damaged ∷ [])) (delivery ask_channel 6) ≡ accepted packet
      → packet ≡ 0x01 ∷ 0x06 ∷ 0x86 ∷ 0x0C ∷ 0x99 ∷ 0x04 ∷ []
  -- only message 01 changes the PAN ID, only 03 the addresses, and only 05 the channel
  pub pan_id_left : (s : Settings) (x : Delivery) → (get_or x.block 2 0 ≡ 0x01 → ⊥) → (step s x).pan_id ≡ s.pan_id
  pub addresses-left : (s : Settings) (x : Delivery) → (get_or x.block 2 0 ≡ 0x03 → ⊥)
      → ((step s x).long_address ≡ s.long_address) × ((step s x).short_address ≡ s.short_address)
  pub channel-left : (s : Settings) (x : Delivery) → (get_or x.block 2 0 ≡ 0x05 → ⊥) → (step s x).channel ≡ s.channel
  -- a reset leaves all settings, and so does every message that is refused
  pub reset-left : (s : Settings) (room : ℕ) → step s (delivery reset_radio room) ≡ s
  pub refused-left : (s : Settings) (x : Delivery) → refusal_of (result_of s x) ≡ 13 → step s x ≡ s
  -- a PAN ID of 14 bits stays one, and settings with one that is over accept no message, and none mends them
  pub pan_id_stays : (x : Delivery) → pan_id_fits (step three x).pan_id ≡ true
  pub over-refuses : (x : Delivery) (packet : List ℕ) → result_of over x ≡ accepted packet → ⊥
  pub over_stays : (x : Delivery) → pan_id_fits (step over x).pan_id ≡ false
  -- the clauses of the theorem on sequences: after the evening each cell holds these bytes, and these were the numbers, and the bytes of the first answer,
  pub cells-after :
      (cells (after evening) pan_id_cell ≡ 0x11 ∷ 0x22 ∷ [])
      × (cells (after evening) long_address_cell ≡ take 8 addresses)
      × (cells (after evening) short_address_cell ≡ 0x09 ∷ 0x0A ∷ [])
      × (cells (after evening) channel ≡ 0x0C ∷ [])
  pub numbers_after : map (λ (r : Result (List ℕ)). refusal_of r) (results model machine three evening) ≡ 0 ∷ 26 ∷ 13 ∷ 0 ∷ []
  pub bytes_after : take 1 (results model machine three evening) ≡ accepted (0x01 ∷ 0x05 ∷ 0x85 ∷ 0x8B ∷ 0x04 ∷ []) ∷ []
  -- a cell without a message of its type keeps its bytes, and a message that is refused leaves the settings,
  pub long-address-kept : cells (after evening) long_address_cell ≡ cells three long_address_cell
  pub damaged-left : step (after (delivery set_channel 5 ∷ [])) damaged ≡ after (delivery set_channel 5 ∷ [])
  -- a set of the channel and a set of the PAN ID can be exchanged anywhere, and each is answered as it was,
  pub exchanged : (rest : List Delivery)
      → (after (delivery set_pan 5 ∷ delivery set_channel 5 ∷ rest) ≡ after (delivery set_channel 5 ∷ delivery set_pan 5 ∷ rest))
      × (take 2 (results model machine three (delivery set_pan 5 ∷ delivery set_channel 5 ∷ rest))
      ≡ accepted (0x01 ∷ 0x05 ∷ 0x81 ∷ 0x87 ∷ 0x04 ∷ []) ∷ accepted (0x01 ∷ 0x05 ∷ 0x85 ∷ 0x8B ∷ 0x04 ∷ []) ∷ [])
  -- and so can a set of the channel and a query of the PAN ID,
  pub exchanged_with_query : (rest : List Delivery)
      → after (delivery ask_pan 7 ∷ delivery set_channel 5 ∷ rest) ≡ after (delivery set_channel 5 ∷ delivery ask_pan 7 ∷ rest)
  -- a set of the channel and a query of it are not apart,
  pub not_apart : Apart model (cells three) (delivery set_channel 5) (delivery ask_channel 6) → ⊥
  -- and settings are no more than their cells
  pub nothing_hidden : (t : Settings) → ArrayLengths t → ((c : Cell) → cells t c ≡ cells (after evening) c) → t ≡ after evening
