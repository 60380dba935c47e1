-- Document 003 and document 02, Ask 10: what a packet is as bytes, and what it may hold. That the reader takes every such packet as what it
-- holds, and no other block, is proved.
use Rattle.std.specs.Prelude.{ℕ, zero, suc, ◌*◌, ◌/◌, ◌%◌, Bool, cond, ◌&&◌, List, [], ◌∷◌, ◌++◌, eqb, ltb, leb, length, drop}
use Rattle.checksum.specs.Checksum.{summed}

-- the first and the last byte of a packet
abbrev pub start : ℕ
start = 0xAA

abbrev pub end : ℕ
end = 0x55

-- the types, by 003's names: of each of the first three sixteen, whose low four bits are a sequence number
abbrev pub ack_data_type : ℕ
ack_data_type = 0x00

abbrev pub no_ack_data_type : ℕ
no_ack_data_type = 0x10

abbrev pub ack_type : ℕ
ack_type = 0x20

abbrev pub addressed_end : ℕ
addressed_end = 0x30

abbrev pub sequences : ℕ
sequences = 16

abbrev pub read_mem_type : ℕ
read_mem_type = 0x80

abbrev pub success_type : ℕ
success_type = 0x86

abbrev pub failure_type : ℕ
failure_type = 0x87

-- a number in two bytes, "low first"
abbrev pub low_first : ℕ → List ℕ
low_first n = n % 256 ∷ n / 256 ∷ []

-- "AA, type, two length bytes low first, payload", then "sum, 55"
abbrev pub front : (type : ℕ) (payload : List ℕ) → List ℕ
front type payload = start ∷ type ∷ (low_first (length payload) ++ payload)

-- "sum taken over type, length and payload": it begins after the first byte
abbrev pub sum_start : ℕ
sum_start = 1

unfoldable pub packet_bytes : (type : ℕ) (payload : List ℕ) → List ℕ
packet_bytes type payload = summed sum_start end (front type payload)

-- what packets say. AckData, NoAckData and Ack: a type, SrcLoc as group and address, DestLoc as bytes, group and address in turn, and Data,
-- which of an Ack is one byte, its Retries. ReadMem: MemSpace, Addr, Len. Success: ReqType, Data. Failure: ReqType, FailCode.
pub data Message : Type 0 where
  addressed : (type group address : ℕ) (targets bytes : List ℕ) → Message
  read_mem : (space address size : ℕ) → Message
  success : (request : ℕ) (bytes : List ℕ) → Message
  failure : (request code : ℕ) → Message

abbrev pub type_of : Message → ℕ
type_of (addressed type group address targets bytes) = type
type_of (read_mem space address size) = read_mem_type
type_of (success request bytes) = success_type
type_of (failure request code) = failure_type

-- 003's EOA, which ends the targets
abbrev pub targets_end : ℕ
targets_end = 0x80

-- 003's PayLdData: SrcLoc, DestLoc, EOA, DataLen, Data; MemSpace, Addr, Len; ReqType, DataLen, Data; ReqType, DataLen (0001), FailCode
unfoldable pub payload_of : Message → List ℕ
payload_of (addressed type group address targets bytes) = group ∷ address ∷ (targets ++ targets_end ∷ (low_first (length bytes) ++ bytes))
payload_of (read_mem space address size) = space ∷ (low_first address ++ low_first size)
payload_of (success request bytes) = request ∷ (low_first (length bytes) ++ bytes)
payload_of (failure request code) = request ∷ (low_first 1 ++ code ∷ [])

-- the packet of a message
abbrev pub message_bytes : Message → List ℕ
message_bytes m = packet_bytes (type_of m) (payload_of m)

-- how many targets there are before the first 80 in a group's place, counted up to the limit; an 80 in an address's place is passed over
unfoldable pub targets_before : ℕ → List ℕ → ℕ
targets_before zero bytes = 0
targets_before (suc limit) [] = 0
targets_before (suc limit) (group ∷ rest) = cond (eqb group targets_end) 0 (suc (targets_before limit (drop 1 rest)))

-- the most targets (house)
abbrev pub targets_max : ℕ
targets_max = 16

-- "1 to 16 target addresses" and no half one, none of which has "a target group 80": the bytes are as many whole targets as are counted
abbrev pub fit_targets : List ℕ → Bool
fit_targets targets = leb 1 (targets_before targets_max targets) && eqb (2 * targets_before targets_max targets) (length targets)

-- the most bytes of data
abbrev pub data_max : ℕ
data_max = 1023

-- "AckData and NoAckData 1 to 1,023"; an Ack has one byte
abbrev pub data_most : ℕ → ℕ
data_most type = cond (ltb type ack_type) data_max 1

abbrev pub fit_data : (type size : ℕ) → Bool
fit_data type size = leb 1 size && leb size (data_most type)

-- MemSpace 0 is EEPROM and 1 is RAM
abbrev pub memory_space_max : ℕ
memory_space_max = 1

-- "ReadMem 2 to 1,023"
abbrev pub memory_length_min : ℕ
memory_length_min = 2

abbrev pub memory_length_max : ℕ
memory_length_max = 1023

abbrev pub fit_memory : (space size : ℕ) → Bool
fit_memory space size = leb space memory_space_max && (leb memory_length_min size && leb size memory_length_max)

-- 003's failure codes
abbrev pub failure_code_max : ℕ
failure_code_max = 5

-- refusal 27, but for what only a reader can meet: whether a message may be written; "other fields any"
unfoldable pub is_accepted : Message → Bool
is_accepted (addressed type group address targets bytes) = ltb type addressed_end && (fit_targets targets && fit_data type (length bytes))
is_accepted (read_mem space address size) = fit_memory space size
is_accepted (success request bytes) = leb (length bytes) data_max
is_accepted (failure request code) = leb code failure_code_max
