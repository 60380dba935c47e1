-- Sentences about literal packets. Each is drawn from a law of the crates below and is stated in numbers, so a law that is made weaker no longer
-- gives its sentence.
use Rattle.std.specs.Prelude.{ℕ, ◌+◌, ◌*◌, ◌<◌, ◌≤◌, ◌≡◌, true, false, List, [], ◌∷◌, length, take, set, Ok}
use Rattle.std.specs.Prelude as std
use Rattle.refusal.specs.declared.Refusal.{Refusal}
use Rattle.refusal.specs.Refusal.{accepted, buffer_after}
use Rattle.refusal.specs.Numbers.{answer}
use Rattle.checksum.specs.Checksum.{summed, sum_holds}
use Rattle.coyote_packet.specs.declared.Addressed.{Addressed}
use Rattle.coyote_packet.specs.declared.Succeeded.{Succeeded}
use Rattle.coyote_packet.specs.declared.Packet.{Packet}
use Rattle.coyote_packet.specs.declared.Packet.TheVariants.{AckData}
use Rattle.coyote_packet.specs.Layout.{Message, addressed, read_mem, success, failure, message_bytes, fit_targets, is_accepted}
use Rattle.coyote_packet.specs.Read.{read_packet, read_message}
use Rattle.coyote_encode.specs.Encode.{encode}
use Rattle.coyote_charge.specs.declared.Charge.{Charge}
use Rattle.coyote_charge.specs.Charge.{charge, export_charge, import_charge}
use Rattle.coyote_examples.specs.Examples.{to_one, unwritten}

-- 003's "Hello", from 1:2 to 1:3, and where its parts lie
abbrev pub hello : Message
hello = addressed 0x00 0x01 0x02 to_one (0x48 ∷ 0x65 ∷ 0x6C ∷ 0x6C ∷ 0x6F ∷ [])

abbrev pub hello_block : List ℕ
hello_block =
    0xAA ∷ 0x00 ∷ 0x0C ∷ 0x00 ∷ 0x01 ∷ 0x02 ∷ 0x01 ∷ 0x03 ∷ 0x80 ∷ 0x05 ∷ 0x00 ∷ 0x48 ∷ 0x65 ∷ 0x6C ∷ 0x6C ∷ 0x6F ∷ 0x8C ∷ 0x55 ∷ []

abbrev pub hello_fields : Addressed
hello_fields = record { sequence = 0; source_group = 1; source_address = 2; target_count = 1; data_start = 11; data_length = 5 }

-- the Ack to it, and 003's answer to a ReadMem
abbrev pub ack_block : List ℕ
ack_block = 0xAA ∷ 0x20 ∷ 0x08 ∷ 0x00 ∷ 0x01 ∷ 0x03 ∷ 0x01 ∷ 0x02 ∷ 0x80 ∷ 0x01 ∷ 0x00 ∷ 0x04 ∷ 0xB4 ∷ 0x55 ∷ []

abbrev pub ack_fields : Addressed
ack_fields = record { sequence = 0; source_group = 1; source_address = 3; target_count = 1; data_start = 11; data_length = 1 }

abbrev pub answer_block : List ℕ
answer_block = 0xAA ∷ 0x86 ∷ 0x05 ∷ 0x00 ∷ 0x80 ∷ 0x02 ∷ 0x00 ∷ 0x01 ∷ 0x03 ∷ 0x11 ∷ 0x55 ∷ []

abbrev pub answer_fields : Succeeded
answer_fields = record { request_type = 0x80; data_start = 7; data_length = 2 }

-- the export of input 2 with readout 57,016
abbrev pub charge_block : List ℕ
charge_block = 0xAA ∷ 0x13 ∷ 0x0A ∷ 0x00 ∷ 0x01 ∷ 0x02 ∷ 0x01 ∷ 0x03 ∷ 0x80 ∷ 0x03 ∷ 0x00 ∷ 0x02 ∷ 0xDE ∷ 0xB8 ∷ 0x3F ∷ 0x55 ∷ []

-- one byte to a target with the group 80, and messages that no writer accepts
abbrev pub to_group80 : Message
to_group80 = addressed 0x10 0x01 0x02 (0x01 ∷ 0x03 ∷ 0x80 ∷ 0x03 ∷ []) (0x07 ∷ [])

abbrev pub without_data : Message
without_data = addressed 0x10 0x01 0x02 to_one []

abbrev pub one_byte_read : Message
one_byte_read = read_mem 1 0x67 1

abbrev pub code_six : Message
code_six = failure 0x80 6

-- every message of these is read back, over its own packet and at the front of a longer buffer
abbrev pub ReadBackInBuffer : Message → (size : ℕ) → Type 0
ReadBackInBuffer m size = read_message (take size (buffer_after (encode m 40) (unwritten 40))) ≡ accepted m

-- some export of input 2 with readout 57,016 gives the block
pub record SomeExport (block : List ℕ) : Type 0 where
  pub sequence : ℕ
  pub group : ℕ
  pub address : ℕ
  pub targets : List ℕ
  pub gives : export_charge sequence group address targets (charge 2 57016) 16 ≡ accepted block

pub record Sentences : Type 0 where
  -- data of every length and content is read back, and so are every address, request and code
  pub any_data : (bytes : List ℕ) → 1 ≤ length bytes → length bytes ≤ 1023 → read_message (message_bytes (addressed 0x00 0x01 0x02 to_one bytes)) ≡ accepted (addressed 0x00 0x01 0x02 to_one bytes)
  pub any-address : (address : ℕ) → read_message (message_bytes (read_mem 1 address 1023)) ≡ accepted (read_mem 1 address 1023)
  pub any-answer : (request : ℕ) (bytes : List ℕ) → length bytes ≤ 1023 → read_message (message_bytes (success request bytes)) ≡ accepted (success request bytes)
  pub any-request : (request : ℕ) → read_message (message_bytes (failure request 5)) ≡ accepted (failure request 5)
  -- the block is the packet of what it says, which a writer accepts
  pub hello-accepted : is_accepted hello ≡ true
  pub hello_packet : hello_block ≡ message_bytes hello
  -- its target and its data lie in its 18 bytes, and its numbers are small; so in the Ack's 14 bytes, and in the answer's 11
  pub hello-places : (6 + 2 * 1 ≤ 18) × (11 + 5 ≤ 18)
  pub hello_small : (0 < 16) × (1 ≤ 16) × (11 ≤ 41) × (5 ≤ 1023)
  pub ack_places : (6 + 2 * 1 ≤ 14) × (11 + 1 ≤ 14)
  pub answer-places : 7 + 2 ≤ 11
  pub answer_small : (7 ≤ 41) × (2 ≤ 1023)
  -- the contracts of reader and import leave one answer each
  pub one_answer : (r : std.Result Packet Refusal) → answer r ≡ read_packet hello_block → r ≡ Ok (AckData hello_fields)
  pub one-charge : (r : std.Result Charge Refusal) → answer r ≡ import_charge charge_block → r ≡ Ok (charge 2 57016)
  -- a packet to a group 80 is not read back, nor is one of what no writer accepts
  pub group_80 : read_message (message_bytes to_group80) ≡ accepted to_group80 → ⊥
  pub no_data : read_message (message_bytes without_data) ≡ accepted without_data → ⊥
  pub no_single_byte : read_message (message_bytes one_byte_read) ≡ accepted one_byte_read → ⊥
  pub no_code_six : read_message (message_bytes code_six) ≡ accepted code_six → ⊥
  -- the bytes of two targets whose addresses are 80 are whole targets, and three bytes, seventeen targets or a group 80 are not
  pub two-accepted : fit_targets (0x01 ∷ 0x80 ∷ 0x02 ∷ 0x80 ∷ []) ≡ true
  pub half_refused : fit_targets (0x01 ∷ 0x03 ∷ 0x01 ∷ []) ≡ true → ⊥
  pub group-refused : fit_targets (0x01 ∷ 0x03 ∷ 0x80 ∷ 0x03 ∷ []) ≡ true → ⊥
  pub many_refused : (targets : List ℕ) → 33 ≤ length targets → fit_targets targets ≡ true → ⊥
  -- what a writer leaves at the front of a buffer is read as what was written
  pub hello_in_buffer : ReadBackInBuffer hello 18
  pub read_in_buffer : ReadBackInBuffer (read_mem 1 0x67 2) 11
  pub answer_in_buffer : ReadBackInBuffer (success 0x80 (0x01 ∷ 0x03 ∷ [])) 11
  pub failure_in_buffer : ReadBackInBuffer (failure 0x80 5) 10
  -- and what was read is written again as the block, with just enough room and with more
  pub again : (encode hello 18 ≡ accepted hello_block) × (encode hello 20 ≡ accepted hello_block)
  pub answer-again : (encode (success 0x80 (0x01 ∷ 0x03 ∷ [])) 11 ≡ accepted answer_block) × (encode (success 0x80 (0x01 ∷ 0x03 ∷ [])) 40 ≡ accepted answer_block)
  -- every readout of every sequence comes back, from either input, and a block that is imported is an export
  pub any_readout : (sequence input readout : ℕ) (block : List ℕ) → export_charge sequence 0x01 0x02 to_one (charge input readout) 16 ≡ accepted block → import_charge block ≡ accepted (charge input readout)
  pub charge_exported : SomeExport charge_block
  -- the sum that begins at the second byte, and the one that begins at the first: written, it passes; with any summed byte changed, the
  -- type's, one between and the last of the data, it does not
  pub sum_written : sum_holds 1 (summed 1 0x55 (0xAA ∷ 0x83 ∷ 0x00 ∷ 0x00 ∷ [])) ≡ true
  pub sum_from-first : sum_holds 0 (summed 0 0x04 (0x01 ∷ 0x05 ∷ 0x02 ∷ [])) ≡ true
  pub sum_is-last : hello_block ≡ summed 1 0x55 (take 16 hello_block)
  pub type-changed : (b : ℕ) → b < 256 → (b ≡ 0x00 → ⊥) → sum_holds 1 (set hello_block 1 b) ≡ false
  pub byte_changed : (b : ℕ) → b < 256 → (b ≡ 0x48 → ⊥) → sum_holds 1 (set hello_block 11 b) ≡ false
  pub last-changed : (b : ℕ) → b < 256 → (b ≡ 0x6F → ⊥) → sum_holds 1 (set hello_block 15 b) ≡ false
  pub first-changed : (b : ℕ) → b < 256 → (b ≡ 0x01 → ⊥) → sum_holds 0 (set (0x01 ∷ 0x05 ∷ 0x02 ∷ 0x08 ∷ 0x04 ∷ []) 0 b) ≡ false
