-- What was read from a block, as all fields of every packet in one struct: those that the packet does not have are 0.
use Rattle.std.specs.Prelude.{ℕ, ◌+◌}
use Rattle.refusal.specs.Refusal.{Result, accepted, refused, none}
use Rattle.coyote_packet.specs.declared.Addressed.{Addressed}
use Rattle.coyote_packet.specs.declared.Packet.{Packet}
use Rattle.coyote_packet.specs.declared.Packet.TheVariants.{AckData, NoAckData, Ack, ReadMem, Success, Failure}
use Rattle.coyote_packet.specs.Layout.{ack_data_type, no_ack_data_type, ack_type, read_mem_type, success_type, failure_type}
use Rattle.coyote_fields.specs.declared.PacketFields.{PacketFields}

-- AckData, NoAckData and Ack: no refusal, and the type is the first of its kind plus the sequence number
abbrev pub addressed_fields : ℕ → Addressed → PacketFields
addressed_fields type a = record {
  refusal = none;
  kind = type + a.sequence;
  source_group = a.source_group;
  source_address = a.source_address;
  target_count = a.target_count;
  memory_space = 0;
  request_type = 0;
  failure_code = 0;
  memory_address = 0;
  memory_length = 0;
  data_start = a.data_start;
  data_length = a.data_length;
}

-- every other packet, and a refusal: there are no addresses
abbrev pub other_fields : (refusal type space request code address size start length : ℕ) → PacketFields
other_fields refusal type space request code address size start length = record {
  refusal = refusal;
  kind = type;
  source_group = 0;
  source_address = 0;
  target_count = 0;
  memory_space = space;
  request_type = request;
  failure_code = code;
  memory_address = address;
  memory_length = size;
  data_start = start;
  data_length = length;
}

-- a refusal: its number, and 0 in every other field
abbrev pub refused_fields : ℕ → PacketFields
refused_fields n = other_fields n 0 0 0 0 0 0 0 0

abbrev pub packet_fields : Packet → PacketFields
packet_fields (AckData a) = addressed_fields ack_data_type a
packet_fields (NoAckData a) = addressed_fields no_ack_data_type a
packet_fields (Ack a) = addressed_fields ack_type a
packet_fields (ReadMem m) = other_fields none read_mem_type m.space 0 0 m.address m.length 0 0
packet_fields (Success s) = other_fields none success_type 0 s.request_type 0 0 0 s.data_start s.data_length
packet_fields (Failure f) = other_fields none failure_type 0 f.request_type f.code 0 0 0 0

abbrev pub fields_read : Result Packet → Result PacketFields
fields_read (accepted p) = accepted (packet_fields p)
fields_read (refused n) = refused n

abbrev pub fields_of : Result Packet → PacketFields
fields_of (accepted p) = packet_fields p
fields_of (refused n) = refused_fields n
