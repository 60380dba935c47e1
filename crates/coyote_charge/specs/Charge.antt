-- Document 02, Ask 10: the charge of an analog input as a packet, and back.
use Rattle.std.specs.Prelude.{ℕ, ◌+◌, ◌*◌, ◌/◌, ◌%◌, cond, List, [], ◌∷◌, eqb, ltb, get_or}
use Rattle.refusal.specs.Refusal.{Result, accepted, refused, and_then, packet_content}
use Rattle.cdi_item.specs.Items.{is_input_number}
use Rattle.coyote_packet.specs.declared.Packet.{Packet}
use Rattle.coyote_packet.specs.declared.Packet.TheVariants.{AckData, NoAckData, Ack, ReadMem, Success, Failure}
use Rattle.coyote_packet.specs.Layout.{no_ack_data_type, sequences, Message, addressed}
use Rattle.coyote_packet.specs.Read.{read_packet}
use Rattle.coyote_encode.specs.Encode.{encode}
use Rattle.coyote_charge.specs.declared.Charge.{Charge}

-- an input's number and a readout as a charge
abbrev pub charge : (input readout : ℕ) → Charge
charge input readout = record { input = record { 0 = input }; readout = readout }

-- "the input number and the readout, high byte first"
abbrev pub charge_bytes : Charge → List ℕ
charge_bytes c = c.input.0 ∷ c.readout / 256 ∷ c.readout % 256 ∷ []

abbrev pub charge_length : ℕ
charge_length = 3

-- NoAckData with a sequence number
abbrev pub charge_message : (sequence group address : ℕ) → List ℕ → Charge → Message
charge_message sequence group address targets c = addressed (no_ack_data_type + sequence) group address targets (charge_bytes c)

-- 27 also for "an input number not 1 or 2", or a sequence number that the type does not have
unfoldable pub export_charge : (sequence group address : ℕ) → List ℕ → Charge → (room : ℕ) → Result (List ℕ)
export_charge sequence group address targets c room =
    cond (ltb sequence sequences)
    (cond (is_input_number c.input.0) (encode (charge_message sequence group address targets c) room) (refused packet_content))
    (refused packet_content)

-- "data that no export gives" are refused: a charge has three bytes, the first an input's number
abbrev pub charge_from : List ℕ → (start size : ℕ) → Result Charge
charge_from block start size =
    cond (eqb size charge_length)
    (cond (is_input_number (get_or block start 0)) (accepted (charge (get_or block start 0) (256 * get_or block (start + 1) 0 + get_or block (start + 2) 0))) (refused packet_content))
    (refused packet_content)

-- and so is "a type other than NoAckData"
abbrev pub charge_in : List ℕ → Packet → Result Charge
charge_in block (NoAckData a) = charge_from block a.data_start a.data_length
charge_in block (AckData a) = refused packet_content
charge_in block (Ack a) = refused packet_content
charge_in block (ReadMem m) = refused packet_content
charge_in block (Success s) = refused packet_content
charge_in block (Failure f) = refused packet_content

-- 24, 25, 26, 27 as the reader has them, then 27
unfoldable pub import_charge : List ℕ → Result Charge
import_charge block = and_then (read_packet block) (charge_in block)
