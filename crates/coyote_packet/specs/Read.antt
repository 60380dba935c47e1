-- Document 02, Ask 10, refusals 24 to 27: what a block is as a packet, in the order of the refusals. Document 003 has the payloads.
use Rattle.std.specs.Prelude.{ℕ, ◌+◌, ◌-◌, ◌*◌, ◌%◌, Bool, cond, ◌&&◌, List, eqb, ltb, leb, length, get_or, drop}
use Rattle.logic.specs.Lists.{part}
use Rattle.refusal.specs.Refusal.{Result, accepted, refused, and_then, packet_ends, packet_length, packet_sum, packet_content}
use Rattle.checksum.specs.Checksum.{sum_holds, ends_hold}
use Rattle.coyote_packet.specs.declared.Addressed.{Addressed}
use Rattle.coyote_packet.specs.declared.Packet.{Packet}
use Rattle.coyote_packet.specs.declared.Packet.TheVariants.{AckData, NoAckData, Ack, ReadMem, Success, Failure}
use Rattle.coyote_packet.specs.Layout.{
  start,
  end,
  ack_data_type,
  no_ack_data_type,
  ack_type,
  addressed_end,
  sequences,
  read_mem_type,
  success_type,
  failure_type,
  sum_start,
  Message,
  addressed,
  read_mem,
  success,
  failure,
  targets_end,
  targets_before,
  targets_max,
  data_max,
  fit_data,
  fit_memory,
  failure_code_max,
}

-- where the payload begins, and how many bytes of a packet are not payload
abbrev pub payload_start : ℕ
payload_start = 4

abbrev pub overhead : ℕ
overhead = 6

-- the bytes of a block that are payload
abbrev pub payload_in : List ℕ → List ℕ
payload_in block = part payload_start (length block - overhead) block

-- where the targets begin in a block
abbrev pub targets_start : ℕ
targets_start = 6

-- what a packet that was read says, by the bytes of its block: each case's type and its fields' values
abbrev pub addressed_in : (type : ℕ) → List ℕ → Addressed → Message
addressed_in type block a =
    addressed (type + a.sequence) a.source_group a.source_address
    (part targets_start (2 * a.target_count) block)
    (part a.data_start a.data_length block)

abbrev pub message_in : List ℕ → Packet → Message
message_in block (AckData a) = addressed_in ack_data_type block a
message_in block (NoAckData a) = addressed_in no_ack_data_type block a
message_in block (Ack a) = addressed_in ack_type block a
message_in block (ReadMem m) = read_mem m.space m.address m.length
message_in block (Success s) = success s.request_type (part s.data_start s.data_length block)
message_in block (Failure f) = failure f.request_type f.code

-- the number in two bytes, low first
abbrev pub word_at : List ℕ → ℕ → ℕ
word_at bytes i = get_or bytes i 0 + 256 * get_or bytes (i + 1) 0

-- what is within a payload is taken if it is accepted, and refused with 27 if not
abbrev pub taken : Bool → Packet → Result Packet
taken ok p = cond ok (accepted p) (refused packet_content)

-- the case of a packet with addresses, by its type
abbrev pub addressed_case : ℕ → Addressed → Packet
addressed_case type a = cond (ltb type no_ack_data_type) (AckData a) (cond (ltb type ack_type) (NoAckData a) (Ack a))

-- where EOA stands after SrcLoc and n targets
abbrev pub end_at : ℕ → ℕ
end_at n = 2 + 2 * n

-- SrcLoc, n targets, EOA, DataLen, which is to be the bytes to the end, and Data
abbrev pub fit_addressed : (type : ℕ) → List ℕ → ℕ → Bool
fit_addressed type payload n =
    (leb 1 n && leb n targets_max) &&
    (eqb (end_at n + 3 + word_at payload (end_at n + 1)) (length payload) &&
    (eqb (get_or payload (end_at n) 0) targets_end &&
    fit_data type (word_at payload (end_at n + 1))))

-- where the parts of such a packet lie
abbrev pub addressed_packet : (type : ℕ) → List ℕ → ℕ → Packet
addressed_packet type payload n = addressed_case type (record {
  sequence = type % sequences;
  source_group = get_or payload 0 0;
  source_address = get_or payload 1 0;
  target_count = n;
  data_start = payload_start + end_at n + 3;
  data_length = word_at payload (end_at n + 1);
})

abbrev pub addressed_with : (type : ℕ) → List ℕ → ℕ → Result Packet
addressed_with type payload n = taken (fit_addressed type payload n) (addressed_packet type payload n)

-- the targets follow SrcLoc, and end at the first 80 in a group's place; a seventeenth is one too many
unfoldable pub read_addressed : (type : ℕ) → List ℕ → Result Packet
read_addressed type payload = addressed_with type payload (targets_before (1 + targets_max) (drop 2 payload))

-- MemSpace, Addr and Len, and no more
unfoldable pub read_memory : List ℕ → Result Packet
read_memory payload =
    taken (eqb (length payload) 5 && fit_memory (get_or payload 0 0) (word_at payload 3))
    (ReadMem (record { space = get_or payload 0 0; address = word_at payload 1; length = word_at payload 3 }))

-- ReqType, DataLen, which is to be the bytes to the end, and Data
unfoldable pub read_success : List ℕ → Result Packet
read_success payload =
    taken (eqb (3 + word_at payload 1) (length payload) && leb (word_at payload 1) data_max)
    (Success (record { request_type = get_or payload 0 0; data_start = payload_start + 3; data_length = word_at payload 1 }))

-- ReqType, DataLen 0001, and FailCode
unfoldable pub read_failure : List ℕ → Result Packet
read_failure payload =
    taken (eqb (length payload) 4 && (eqb (word_at payload 1) 1 && leb (get_or payload 3 0) failure_code_max))
    (Failure (record { request_type = get_or payload 0 0; code = get_or payload 3 0 }))

-- the payload of a packet, by its type
unfoldable pub read_payload : (type : ℕ) → List ℕ → Result Packet
read_payload type payload =
    cond (ltb type addressed_end) (read_addressed type payload)
    (cond (eqb type read_mem_type) (read_memory payload)
    (cond (eqb type success_type) (read_success payload)
    (cond (eqb type failure_type) (read_failure payload) (refused packet_content))))

-- 25: "the packet's length bytes against the block"; a block that is too short for them has another length too
abbrev pub length_holds : List ℕ → Bool
length_holds block = eqb (overhead + word_at block 2) (length block)

-- 26, then what the payload holds
abbrev pub read_summed : List ℕ → Result Packet
read_summed block = cond (sum_holds sum_start block) (read_payload (get_or block 1 0) (payload_in block)) (refused packet_sum)

-- a block is one packet: 24, 25, 26, 27 in this order
unfoldable pub read_packet : List ℕ → Result Packet
read_packet block = cond (ends_hold start end block) (cond (length_holds block) (read_summed block) (refused packet_length)) (refused packet_ends)

-- what a block says
abbrev pub read_message : List ℕ → Result Message
read_message block = and_then (read_packet block) (λ p. accepted (message_in block p))
