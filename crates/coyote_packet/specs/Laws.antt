-- Document 02, Ask 10: what reader and layout are to each other. The statements alone; `proofs/ReadBack.antt`,
-- `proofs/Accepted.antt`, `proofs/Exact.antt` and `proofs/Whole.antt` prove them.
use Rattle.std.specs.Prelude.{ℕ, ◌+◌, ◌*◌, ◌<◌, ◌≤◌, ◌≡◌, true, List, length, get_or}
use Rattle.logic.specs.Lists.{Bytes}
use Rattle.refusal.specs.Refusal.{accepted}
use Rattle.coyote_packet.specs.declared.Addressed.{Addressed}
use Rattle.coyote_packet.specs.declared.Packet.{Packet}
use Rattle.coyote_packet.specs.declared.Packet.TheVariants.{AckData, NoAckData, Ack, ReadMem, Success, Failure}
use Rattle.coyote_packet.specs.Layout.{sequences, targets_end, targets_max, data_max, Message, addressed, message_bytes, is_accepted}
use Rattle.coyote_packet.specs.Read.{payload_start, targets_start, end_at, message_in, read_message}

-- what `fit_targets` says of the bytes of targets, target by target: 1 to 16 whole ones, group and address in turn, and no group 80
pub record WholeTargets (targets : List ℕ) : Type 0 where
  pub count : ℕ
  pub some : 1 ≤ count
  pub few : count ≤ targets_max
  pub whole : length targets ≡ 2 * count
  pub other_groups : (i : ℕ) → i < count → get_or targets (2 * i) 0 ≡ targets_end → ⊥

-- what a writer writes is read as exactly that
abbrev pub ReadBack : Type 0
ReadBack = (m : Message) → is_accepted m ≡ true → read_message (message_bytes m) ≡ accepted m

-- and what is not accepted is not read as itself
abbrev pub ReadBackOnly : Type 0
ReadBackOnly = (m : Message) → Bytes (message_bytes m) → read_message (message_bytes m) ≡ accepted m → is_accepted m ≡ true

-- why a writer refuses "a target group 80": no packet with one is read back
abbrev pub GroupLost : Type 0
GroupLost =
    (type group address : ℕ) (targets bytes : List ℕ) (i : ℕ)
    → Bytes (message_bytes (addressed type group address targets bytes))
    → 2 * i < length targets
    → get_or targets (2 * i) 0 ≡ targets_end
    → read_message (message_bytes (addressed type group address targets bytes)) ≡ accepted (addressed type group address targets bytes)
    → ⊥

-- the places that a packet names lie in the block
abbrev pub AddressedWithin : List ℕ → Addressed → Type 0
AddressedWithin block a = (targets_start + 2 * a.target_count ≤ length block) × (a.data_start + a.data_length ≤ length block)

abbrev pub Within : List ℕ → Packet → Type 0
Within block (AckData a) = AddressedWithin block a
Within block (NoAckData a) = AddressedWithin block a
Within block (Ack a) = AddressedWithin block a
Within block (ReadMem m) = Unit {0}
Within block (Success s) = s.data_start + s.data_length ≤ length block
Within block (Failure f) = Unit {0}

-- the numbers of a packet are small: the data of a packet with addresses starts after at most 16 targets
abbrev pub data_start_max : ℕ
data_start_max = payload_start + end_at targets_max + 3

abbrev pub AddressedSmall : Addressed → Type 0
AddressedSmall a =
    (a.sequence < sequences) × (a.target_count ≤ targets_max) × (a.data_start ≤ data_start_max) × (a.data_length ≤ data_max)

abbrev pub Small : Packet → Type 0
Small (AckData a) = AddressedSmall a
Small (NoAckData a) = AddressedSmall a
Small (Ack a) = AddressedSmall a
Small (ReadMem m) = Unit {0}
Small (Success s) = (s.data_start ≤ data_start_max) × (s.data_length ≤ data_max)
Small (Failure f) = Unit {0}

-- a block that is read is exactly the packet of what it says, a writer accepts that, and every place lies in the block
pub record LaidOut (block : List ℕ) (p : Packet) : Type 0 where
  pub message-accepted : is_accepted (message_in block p) ≡ true
  pub packet_is : block ≡ message_bytes (message_in block p)
  pub places-within : Within block p
  pub numbers_small : Small p
