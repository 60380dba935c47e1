-- The sentences, each drawn from its law; only that a literal block is read, or is of bytes, is computed.
-- Assumes nothing.
use Prim.Native.Nat.{ℕ, zero, suc, ◌*◌, ◌<◌, ◌≤◌}
use mathlib.Core.Path.{◌≡◌, refl, sym, ◌∙◌}
use mathlib.Core.Bool.{true, false, true≢false}
use mathlib.Core.List.{List, [], ◌∷◌}
use native.Mathlib.Omega.{arith}
use borrow.Author.Tests.{le-leb}
use lib.ListN.{length, get_or, set}
use Rattle.std.specs.Prelude.{Ok}
use Rattle.logic.specs.Lists.{Bytes}
use Rattle.logic.proofs.Bytes.{bytes_of}
use Rattle.refusal.specs.Refusal.{accepted}
use Rattle.refusal.proofs.Determined.{answer_determined}
use Rattle.checksum.specs.Checksum.{byte_sum, sum_holds}
use Rattle.checksum.proofs.Laws.{written_passes, passes_as_written, change_noticed}
use Rattle.coyote_packet.specs.declared.Packet.TheVariants.{AckData, Ack, Success}
use Rattle.coyote_packet.specs.Layout.{Message, addressed, read_mem, success, failure, message_bytes, packet_bytes, payload_of, targets_end, targets_before, fit_targets, is_accepted}
use Rattle.coyote_packet.specs.Read.{read_addressed, read_success, read_payload, read_packet, read_message}
use Rattle.coyote_packet.specs.Laws.{WholeTargets, LaidOut}
use Rattle.coyote_packet.proofs.ReadBack.{read_back}
use Rattle.coyote_packet.proofs.Accepted.{accepted_laid_out}
use Rattle.coyote_packet.proofs.Exact.{read-back_only, group_lost}
use Rattle.coyote_packet.proofs.Whole.{fit_is_whole, whole_is_fit}
use Rattle.coyote_encode.specs.Encode.{encode}
use Rattle.coyote_encode.proofs.Laws.{written_is_read, read_is_written}
use Rattle.coyote_charge.specs.Charge.{charge, import_charge}
use Rattle.coyote_charge.proofs.Laws.{export_is-imported, import_was_exported}
use Rattle.coyote_examples.specs.Examples.{to_one, unwritten}
use Rattle.coyote_examples.specs.Sentences.{
  hello,
  hello_block,
  hello_fields,
  ack_block,
  ack_fields,
  answer_block,
  answer_fields,
  charge_block,
  to_group80,
  without_data,
  one_byte_read,
  code_six,
  ReadBackInBuffer,
  SomeExport,
  Sentences,
}

-- the blocks are read, and so they are laid out
hello-bytes : Bytes hello_block
hello-bytes = bytes_of hello_block refl

hello-read : read_packet hello_block ≡ accepted (AckData hello_fields)
unfolding byte_sum targets_before read_addressed read_payload read_packet
hello-read = refl

hello_laid_out : LaidOut hello_block (AckData hello_fields)
hello_laid_out = accepted_laid_out hello_block (AckData hello_fields) hello-bytes hello-read

ack_read : read_packet ack_block ≡ accepted (Ack ack_fields)
unfolding byte_sum targets_before read_addressed read_payload read_packet
ack_read = refl

ack_laid_out : LaidOut ack_block (Ack ack_fields)
ack_laid_out = accepted_laid_out ack_block (Ack ack_fields) (bytes_of ack_block refl) ack_read

answer-read : read_packet answer_block ≡ accepted (Success answer_fields)
unfolding byte_sum read_success read_payload read_packet
answer-read = refl

answer_laid_out : LaidOut answer_block (Success answer_fields)
answer_laid_out = accepted_laid_out answer_block (Success answer_fields) (bytes_of answer_block refl) answer-read

-- messages that are accepted
data_accepted : (bytes : List ℕ) → 1 ≤ length bytes → length bytes ≤ 1023 → is_accepted (addressed 0x00 0x01 0x02 to_one bytes) ≡ true
unfolding is_accepted targets_before
data_accepted bytes low high = simp (le-leb 1 (length bytes) low, le-leb (length bytes) 1023 high)

address-accepted : (address : ℕ) → is_accepted (read_mem 1 address 1023) ≡ true
unfolding is_accepted
address-accepted address = refl

answer-accepted : (request : ℕ) (bytes : List ℕ) → length bytes ≤ 1023 → is_accepted (success request bytes) ≡ true
unfolding is_accepted
answer-accepted request bytes high = le-leb (length bytes) 1023 high

request-accepted : (request : ℕ) → is_accepted (failure request 5) ≡ true
unfolding is_accepted
request-accepted request = refl

-- messages that are not: none is read back
not_back : (m : Message) → Bytes (message_bytes m) → is_accepted m ≡ false → read_message (message_bytes m) ≡ accepted m → ⊥
not_back m bytes refused e = true≢false (sym (read-back_only m bytes e) ∙ refused)

group-bytes : Bytes (message_bytes to_group80)
unfolding byte_sum packet_bytes payload_of
group-bytes = bytes_of (message_bytes to_group80) refl

no_data : read_message (message_bytes without_data) ≡ accepted without_data → ⊥
unfolding byte_sum packet_bytes payload_of is_accepted targets_before
no_data = not_back without_data (bytes_of (message_bytes without_data) refl) refl

no_single_byte : read_message (message_bytes one_byte_read) ≡ accepted one_byte_read → ⊥
unfolding byte_sum packet_bytes payload_of is_accepted
no_single_byte = not_back one_byte_read (bytes_of (message_bytes one_byte_read) refl) refl

no_code_six : read_message (message_bytes code_six) ≡ accepted code_six → ⊥
unfolding byte_sum packet_bytes payload_of is_accepted
no_code_six = not_back code_six (bytes_of (message_bytes code_six) refl) refl

-- targets, one by one
two_groups : (i : ℕ) → i < 2 → get_or (0x01 ∷ 0x80 ∷ 0x02 ∷ 0x80 ∷ []) (2 * i) 0 ≡ targets_end → ⊥
two_groups zero h e = omega arith
two_groups (suc zero) h e = omega arith
two_groups (suc (suc i)) h e = omega arith

two-targets : WholeTargets (0x01 ∷ 0x80 ∷ 0x02 ∷ 0x80 ∷ [])
two-targets = record { count = 2; some = omega arith; few = omega arith; whole = refl; other_groups = two_groups }

half_refused : fit_targets (0x01 ∷ 0x03 ∷ 0x01 ∷ []) ≡ true → ⊥
half_refused e = let w = fit_is_whole (0x01 ∷ 0x03 ∷ 0x01 ∷ []) e in omega (arith, w.whole)

group-refused : fit_targets (0x01 ∷ 0x03 ∷ 0x80 ∷ 0x03 ∷ []) ≡ true → ⊥
group-refused e = let w = fit_is_whole (0x01 ∷ 0x03 ∷ 0x80 ∷ 0x03 ∷ []) e in w.other_groups 1 (omega (arith, w.whole)) refl

many_refused : (targets : List ℕ) → 33 ≤ length targets → fit_targets targets ≡ true → ⊥
many_refused targets h e = let w = fit_is_whole targets e in omega (arith, w.whole, w.few)

-- what is at the front of a buffer
hello_in_buffer : ReadBackInBuffer hello 18
unfolding encode is_accepted targets_before packet_bytes payload_of
hello_in_buffer = written_is_read hello (unwritten 40) (message_bytes hello) refl

read_in_buffer : ReadBackInBuffer (read_mem 1 0x67 2) 11
unfolding encode is_accepted packet_bytes payload_of
read_in_buffer = written_is_read (read_mem 1 0x67 2) (unwritten 40) (message_bytes (read_mem 1 0x67 2)) refl

answer_in_buffer : ReadBackInBuffer (success 0x80 (0x01 ∷ 0x03 ∷ [])) 11
unfolding encode is_accepted packet_bytes payload_of
answer_in_buffer = written_is_read (success 0x80 (0x01 ∷ 0x03 ∷ [])) (unwritten 40) (message_bytes (success 0x80 (0x01 ∷ 0x03 ∷ []))) refl

failure_in_buffer : ReadBackInBuffer (failure 0x80 5) 10
unfolding encode is_accepted packet_bytes payload_of
failure_in_buffer = written_is_read (failure 0x80 5) (unwritten 40) (message_bytes (failure 0x80 5)) refl

-- the charge
charge-imported : import_charge charge_block ≡ accepted (charge 2 57016)
unfolding byte_sum targets_before read_addressed read_payload read_packet import_charge
charge-imported = refl

charge_exported : SomeExport charge_block
charge_exported =
    let e = import_was_exported charge_block (charge 2 57016) (bytes_of charge_block refl) charge-imported in
    record { sequence = e.sequence; group = e.group; address = e.address; targets = e.targets; gives = e.export_is }

hello_sum : sum_holds 1 hello_block ≡ true
unfolding byte_sum
hello_sum = refl

changed : (i b : ℕ) → 1 ≤ i → i < 16 → b < 256 → (b ≡ get_or hello_block i 0 → ⊥) → sum_holds 1 (set hello_block i b) ≡ false
changed i b low high byte other = change_noticed 1 hello_block i b hello-bytes byte low high other hello_sum

-- 01 05 02 08 04, whose sum begins at the first byte
first_sum : sum_holds 0 (0x01 ∷ 0x05 ∷ 0x02 ∷ 0x08 ∷ 0x04 ∷ []) ≡ true
unfolding byte_sum
first_sum = refl

pub sentences_hold : Sentences
sentences_hold = record {
  any_data = λ bytes low high. read_back (addressed 0x00 0x01 0x02 to_one bytes) (data_accepted bytes low high);
  any-address = λ address. read_back (read_mem 1 address 1023) (address-accepted address);
  any-answer = λ request bytes high. read_back (success request bytes) (answer-accepted request bytes high);
  any-request = λ request. read_back (failure request 5) (request-accepted request);
  hello-accepted = hello_laid_out.message-accepted;
  hello_packet = hello_laid_out.packet_is;
  hello-places = hello_laid_out.places-within;
  hello_small = hello_laid_out.numbers_small;
  ack_places = ack_laid_out.places-within;
  answer-places = answer_laid_out.places-within;
  answer_small = answer_laid_out.numbers_small;
  one_answer = λ r e. answer_determined r (Ok (AckData hello_fields)) (e ∙ hello-read);
  one-charge = λ r e. answer_determined r (Ok (charge 2 57016)) (e ∙ charge-imported);
  group_80 = group_lost 0x10 0x01 0x02 (0x01 ∷ 0x03 ∷ 0x80 ∷ 0x03 ∷ []) (0x07 ∷ []) 1 group-bytes (omega arith) refl;
  no_data = no_data;
  no_single_byte = no_single_byte;
  no_code_six = no_code_six;
  two-accepted = whole_is_fit (0x01 ∷ 0x80 ∷ 0x02 ∷ 0x80 ∷ []) two-targets;
  half_refused = half_refused;
  group-refused = group-refused;
  many_refused = many_refused;
  hello_in_buffer = hello_in_buffer;
  read_in_buffer = read_in_buffer;
  answer_in_buffer = answer_in_buffer;
  failure_in_buffer = failure_in_buffer;
  again = (
    read_is_written hello_block (AckData hello_fields) 18 hello-bytes hello-read (omega arith),
    read_is_written hello_block (AckData hello_fields) 20 hello-bytes hello-read (omega arith),
  );
  answer-again = (
    read_is_written answer_block (Success answer_fields) 11 (bytes_of answer_block refl) answer-read (omega arith),
    read_is_written answer_block (Success answer_fields) 40 (bytes_of answer_block refl) answer-read (omega arith),
  );
  any_readout = λ sequence input readout block e. export_is-imported sequence 0x01 0x02 to_one (charge input readout) 16 block e;
  charge_exported = charge_exported;
  sum_written = written_passes 1 0x55 (0xAA ∷ 0x83 ∷ 0x00 ∷ 0x00 ∷ []);
  sum_from-first = written_passes 0 0x04 (0x01 ∷ 0x05 ∷ 0x02 ∷ []);
  sum_is-last = passes_as_written 1 hello_block hello_sum;
  type-changed = λ b byte other. changed 1 b (omega arith) (omega arith) byte other;
  byte_changed = λ b byte other. changed 11 b (omega arith) (omega arith) byte other;
  last-changed = λ b byte other. changed 15 b (omega arith) (omega arith) byte other;
  first-changed = λ b byte other.
      change_noticed 0 (0x01 ∷ 0x05 ∷ 0x02 ∷ 0x08 ∷ 0x04 ∷ []) 0 b (bytes_of (0x01 ∷ 0x05 ∷ 0x02 ∷ 0x08 ∷ 0x04 ∷ []) refl) byte (omega arith) (omega arith) other first_sum;
}
