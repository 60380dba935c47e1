-- The sentences, each drawn from its law; only that a literal block is read, or what a literal message makes of literal settings, is computed.
-- Assumes nothing.
use Prim.Native.Nat.{ℕ, suc, ◌+◌, ◌*◌, ◌<◌}
use mathlib.Core.Path.{◌≡◌, refl, sym, ap, subst, ◌∙◌}
use mathlib.Core.Bool.{Bool, true, false, true≢false, false≢true}
use mathlib.Core.List.{List, [], ◌∷◌, ◌++◌, map}
use native.Mathlib.Omega.{arith}
use borrow.Author.Tests.{lt-ltb, eq-eqb}
use lib.Dec.{eqb}
use lib.ListN.{length, get_or, take, length-append}
use Rattle.std.specs.Prelude.{Ok}
use Rattle.logic.specs.Lists.{any}
use Rattle.logic.proofs.Choice.{neither}
use Rattle.refusal.specs.Refusal.{Result, accepted, refused, refusal_of, buffer_after}
use Rattle.refusal.proofs.Determined.{answer_determined}
use Rattle.checksum.specs.Checksum.{byte_sum}
use Rattle.sequence.specs.Model.{Apart, stores_in, touches, next, after as modelAfter, results as modelResults, last_or, swap_at}
use Rattle.sequence.specs.Machine.{run, results, given, NoneStores, Claims}
use Rattle.freestar_packet.specs.Layout.{answer_to, fits_in, packet_bytes, is_accepted}
use Rattle.freestar_packet.specs.Read.{data_in, read_frame, read_packet, content, read_content}
use Rattle.freestar_packet.specs.Encode.{encode}
use Rattle.freestar_packet.specs.Laws.{LaidOut}
use Rattle.freestar_packet.proofs.Laws.{read_back, read-back_only, read_is_laid_out, written_is_read, read_is_written}
use Rattle.freestar_packet.proofs.Refusals.{read-refusal, write-refusal}
use Rattle.freestar_model.specs.Cells.{Cell, pan_id_cell, long_address_cell, short_address_cell, channel, is_in, Setting, network, address, frequency, cells_of}
use Rattle.freestar_model.specs.Model.{Delivery, delivery, decide, model}
use Rattle.freestar_settings.specs.Settings.{ArrayLengths, settings, answer, stored, validate, result_of, step}
use Rattle.freestar_sequence.specs.Machine.{cells, machine}
use Rattle.freestar_sequence.specs.Laws.{set_type, query_type}
use Rattle.freestar_sequence.proofs.Laws.{sequence_theorem, answer_is_read, last-set_is_told, set_is_told, only_sets, other-types, reset-leaves, refused-leaves, pan_id_kept, refusal-numbers}
use Rattle.freestar_examples.specs.Examples.{unwritten, three, over}
use Rattle.freestar_examples.specs.Sentences.{addresses, address_block, set_pan, set_addresses, set_channel, ask_pan, ask_addresses, ask_channel, reset_radio, damaged, evening, Without, Told, after, Sentences}

-- what is not accepted is not read back
not_back : (type : ℕ) (bytes : List ℕ) → is_accepted type bytes ≡ false → read_content (packet_bytes type bytes) ≡ accepted (content type bytes) → ⊥
not_back type bytes bad e = true≢false (sym (read-back_only type bytes e) ∙ bad)

any-channel : (b : ℕ) → read_content (packet_bytes 0x05 (b ∷ [])) ≡ accepted (content 0x05 (b ∷ []))
unfolding is_accepted fits_in
any-channel b = read_back 0x05 (b ∷ []) refl

any-address : (bytes : List ℕ) → length bytes ≡ 10 → read_content (packet_bytes 0x03 bytes) ≡ accepted (content 0x03 bytes)
unfolding is_accepted fits_in
any-address bytes size = read_back 0x03 bytes (simp size)

any_pan_id : (low high : ℕ) → low + 256 * high < 16384 → read_content (packet_bytes 0x82 (low ∷ high ∷ [])) ≡ accepted (content 0x82 (low ∷ high ∷ []))
unfolding is_accepted fits_in
any_pan_id low high h = read_back 0x82 (low ∷ high ∷ []) (lt-ltb (low + 256 * high) 16384 h)

no_pan_id : read_content (packet_bytes 0x01 (0x00 ∷ 0x40 ∷ [])) ≡ accepted (content 0x01 (0x00 ∷ 0x40 ∷ [])) → ⊥
unfolding is_accepted fits_in
no_pan_id = not_back 0x01 (0x00 ∷ 0x40 ∷ []) refl

no_data : read_content (packet_bytes 0x02 (0x00 ∷ [])) ≡ accepted (content 0x02 (0x00 ∷ [])) → ⊥
unfolding is_accepted fits_in
no_data = not_back 0x02 (0x00 ∷ []) refl

no_type : (bytes : List ℕ) → read_content (packet_bytes 0x07 bytes) ≡ accepted (content 0x07 bytes) → ⊥
unfolding is_accepted fits_in
no_type bytes = not_back 0x07 bytes refl

address_read : read_packet address_block ≡ accepted (record { kind = 0x84; data_length = 10 })
unfolding byte_sum fits_in read_frame read_packet
address_read = refl

address_laid_out : LaidOut address_block (record { kind = 0x84; data_length = 10 })
address_laid_out = read_is_laid_out address_block (record { kind = 0x84; data_length = 10 }) address_read

in_buffer : read_content (take 15 (buffer_after (encode 0x84 addresses 20) (unwritten 20))) ≡ accepted (content 0x84 addresses)
unfolding byte_sum fits_in packet_bytes encode
in_buffer = written_is_read 0x84 addresses (unwritten 20) address_block refl

any-channel_in-buffer : (b : ℕ) → read_content (take 6 (buffer_after (encode 0x05 (b ∷ []) 20) (unwritten 20))) ≡ accepted (content 0x05 (b ∷ []))
unfolding fits_in packet_bytes encode
any-channel_in-buffer b = written_is_read 0x05 (b ∷ []) (unwritten 20) (packet_bytes 0x05 (b ∷ [])) refl

set-read : read_packet set_pan ≡ accepted (record { kind = 0x01; data_length = 2 })
unfolding byte_sum fits_in read_frame read_packet
set-read = refl

-- the settings of the examples have arrays of their lengths
three-lengths : ArrayLengths three
three-lengths = record { pan_id = refl; long-address = refl; short-address = refl }

over-lengths : ArrayLengths over
over-lengths = record { pan_id = refl; long-address = refl; short-address = refl }

address-told : read_content (take 15 (buffer_after (result_of three (delivery ask_addresses 20)) (unwritten 20))) ≡ accepted (content 0x84 addresses)
unfolding byte_sum fits_in packet_bytes read_frame answer validate result_of
address-told = answer_is_read three (delivery ask_addresses 20) (unwritten 20) address_block three-lengths refl

set-acknowledged : read_content (take 5 (buffer_after (result_of three (delivery set_pan 20)) (unwritten 20))) ≡ accepted (content 0x81 [])
unfolding byte_sum fits_in packet_bytes read_frame answer validate result_of
set-acknowledged = answer_is_read three (delivery set_pan 20) (unwritten 20) (packet_bytes 0x81 []) three-lengths refl

channel-told : (b : ℕ) (packet : List ℕ) → result_of (settings (0x34 ∷ 0x12 ∷ []) (take 8 addresses) (0x09 ∷ 0x0A ∷ []) b) (delivery ask_channel 6) ≡ accepted packet
    → read_content (take (length packet) (buffer_after (accepted packet) (unwritten 6))) ≡ accepted (content 0x86 (b ∷ []))
channel-told b packet e =
    rw e at
    (answer_is_read (settings (0x34 ∷ 0x12 ∷ []) (take 8 addresses) (0x09 ∷ 0x0A ∷ []) b) (delivery ask_channel 6) (unwritten 6) packet
    (record { pan_id = refl; long-address = refl; short-address = refl }) e)

-- a number that is not 0 is a refusal's
has-number : {A : Type 0} (r : Result A) (n : ℕ) → refusal_of r ≡ suc n → r ≡ refused (suc n)
has-number (accepted x) n e = absurd (omega arith)
has-number (refused k) n e = ap refused e

-- sequences
claims : Claims model machine three evening
claims = sequence_theorem three three-lengths evening

module _ (packet : List ℕ) where
  last-channel : result_of (after evening) (delivery ask_channel 6) ≡ accepted packet → packet ≡ 0x01 ∷ 0x06 ∷ 0x86 ∷ 0x0C ∷ 0x99 ∷ 0x04 ∷ []
  unfolding given last_or byte_sum fits_in packet_bytes read_frame decide answer stored validate result_of step
  last-channel e = last-set_is_told three evening (delivery ask_channel 6) packet three-lengths e

  last_pan_id : result_of (after evening) (delivery ask_pan 7) ≡ accepted packet → packet ≡ 0x01 ∷ 0x07 ∷ 0x82 ∷ 0x11 ∷ 0x22 ∷ 0xBD ∷ 0x04 ∷ []
  unfolding given last_or byte_sum fits_in packet_bytes read_frame decide answer stored validate result_of step
  last_pan_id e = last-set_is_told three evening (delivery ask_pan 7) packet three-lengths e

  first-addresses : result_of (after evening) (delivery ask_addresses 15) ≡ accepted packet → packet ≡ address_block
  unfolding given last_or byte_sum fits_in packet_bytes read_frame decide answer stored validate result_of step
  first-addresses e = last-set_is_told three evening (delivery ask_addresses 15) packet three-lengths e

-- what was set is told
module _ (k : Setting) (set ask : List ℕ) (of-set : get_or set 2 0 ≡ set_type k) (of-query : get_or ask 2 0 ≡ query_type k) where
  told : Told set ask (packet_bytes (answer_to (query_type k)) (data_in set)) (set_type k)
  told s before between n m done packet h e without e' =
      set_is_told s before between (delivery set n) (delivery ask m) k done packet h e of-set
      (λ c of-k. other-types (step (run model machine s before) (delivery set n)) between k without c of-k) e' of-query

pan_id_told : Told set_pan ask_pan (0x01 ∷ 0x07 ∷ 0x82 ∷ 0x11 ∷ 0x22 ∷ 0xBD ∷ 0x04 ∷ []) 0x01
unfolding byte_sum packet_bytes
pan_id_told = told network set_pan ask_pan refl refl

addresses-told : Told set_addresses ask_addresses (0x01 ∷ 0x0F ∷ 0x84 ∷ 0x0A ∷ 0x09 ∷ 0x08 ∷ 0x07 ∷ 0x06 ∷ 0x05 ∷ 0x04 ∷ 0x03 ∷ 0x02 ∷ 0x01 ∷ 0xCB ∷ 0x04 ∷ []) 0x03
unfolding byte_sum packet_bytes
addresses-told = told address set_addresses ask_addresses refl refl

set-channel-told : Told set_channel ask_channel (0x01 ∷ 0x06 ∷ 0x86 ∷ 0x0C ∷ 0x99 ∷ 0x04 ∷ []) 0x05
unfolding byte_sum packet_bytes
set-channel-told = told frequency set_channel ask_channel refl refl

-- the damaged set between stores nothing
none_between : NoneStores model machine (after (delivery set_channel 5 ∷ [])) (damaged ∷ []) channel
unfolding run byte_sum fits_in packet_bytes read_frame decide answer stored validate result_of step
none_between [] x rest e =
    let same : damaged ≡ x = cc in
    subst (λ (y : Delivery). stores_in model (cells (after (delivery set_channel 5 ∷ []))) y channel ≡ false) same refl
none_between (y ∷ before) x rest e =
    absurd (omega (arith, ap length e, length-append before (x ∷ rest)))

of_channel : (c : Cell) → is_in (cells_of frequency) c ≡ true → c ≡ channel
of_channel pan_id_cell e = absurd (false≢true e)
of_channel long_address_cell e = absurd (false≢true e)
of_channel short_address_cell e = absurd (false≢true e)
of_channel channel e = refl

damaged-between : (packet : List ℕ) → result_of (after (delivery set_channel 5 ∷ damaged ∷ [])) (delivery ask_channel 6) ≡ accepted packet
    → packet ≡ 0x01 ∷ 0x06 ∷ 0x86 ∷ 0x0C ∷ 0x99 ∷ 0x04 ∷ []
unfolding run byte_sum fits_in packet_bytes read_frame answer stored validate result_of step
damaged-between packet e =
    set_is_told three [] (damaged ∷ []) (delivery set_channel 5) (delivery ask_channel 6) frequency (packet_bytes 0x85 []) packet three-lengths refl refl
    (λ c of-k. subst (λ (d : Cell). NoneStores model machine (after (delivery set_channel 5 ∷ [])) (damaged ∷ []) d) (sym (of_channel c of-k)) none_between) e refl

-- the clauses of the theorem
cells-after :
    (cells (after evening) pan_id_cell ≡ 0x11 ∷ 0x22 ∷ [])
    × (cells (after evening) long_address_cell ≡ take 8 addresses)
    × (cells (after evening) short_address_cell ≡ 0x09 ∷ 0x0A ∷ [])
    × (cells (after evening) channel ≡ 0x0C ∷ [])
unfolding modelAfter byte_sum fits_in packet_bytes read_frame decide
cells-after =
    (claims.agrees_with_model.0 pan_id_cell, claims.agrees_with_model.0 long_address_cell, claims.agrees_with_model.0 short_address_cell, claims.agrees_with_model.0 channel)

numbers_after : map (λ (r : Result (List ℕ)). refusal_of r) (results model machine three evening) ≡ 0 ∷ 26 ∷ 13 ∷ 0 ∷ []
unfolding modelResults byte_sum fits_in packet_bytes read_frame decide
numbers_after = ap (map (λ (r : Result (List ℕ)). refusal_of r)) claims.agrees_with_model.1

bytes_after : take 1 (results model machine three evening) ≡ accepted (0x01 ∷ 0x05 ∷ 0x85 ∷ 0x8B ∷ 0x04 ∷ []) ∷ []
unfolding modelResults byte_sum fits_in packet_bytes read_frame decide
bytes_after = ap (take 1) claims.agrees_with_model.1

-- a test that passes at no element of a list passes at none that the list is split at
at_none : {A : Type 0} (ok : A → Bool) (xs : List A) → any ok xs ≡ false → (before : List A) (x : A) (rest : List A) → xs ≡ before ++ x ∷ rest → ok x ≡ false
at_none ok [] e [] x rest is = cc
at_none ok [] e (y ∷ before) x rest is = cc
at_none ok (y ∷ ys) e [] x rest is =
    let same : y ≡ x = cc in
    rw same at (neither (ok y) (any ok ys) e).0
at_none ok (y ∷ ys) e (z ∷ before) x rest is =
    let others : ys ≡ before ++ x ∷ rest = cc in
    at_none ok ys (neither (ok y) (any ok ys) e).1 before x rest others

-- no message of the evening has the type 03
no_addresses : Without 0x03 evening
no_addresses before x rest e t =
    true≢false (sym (eq-eqb (get_or x.block 2 0) 0x03 t) ∙ at_none (λ (y : Delivery). eqb (get_or y.block 2 0) 0x03) evening refl before x rest e)

long-address-kept : cells (after evening) long_address_cell ≡ cells three long_address_cell
long-address-kept = claims.none-stored long_address_cell (other-types three evening address no_addresses long_address_cell refl)

damaged-left : step (after (delivery set_channel 5 ∷ [])) damaged ≡ after (delivery set_channel 5 ∷ [])
unfolding run byte_sum fits_in packet_bytes read_frame decide answer stored validate result_of step
damaged-left = (claims.refused-stores-none (delivery set_channel 5 ∷ []) damaged _ refl refl).1

-- a message that neither touches nor stores the channel is apart from the message that sets it
module _ (y : Delivery) where
  besides_channel :
      touches model (next model (cells three) (delivery set_channel 5)) y channel ≡ false
      → stores_in model (next model (cells three) (delivery set_channel 5)) y channel ≡ false
      → Apart model (cells three) (delivery set_channel 5) y
  unfolding byte_sum fits_in packet_bytes read_frame decide
  besides_channel untouched unstored = record { first-stores = first; second-stores = second }
    where
      first : (c : Cell) → stores_in model (cells three) (delivery set_channel 5) c ≡ true → touches model (next model (cells three) (delivery set_channel 5)) y c ≡ false
      first pan_id_cell e = absurd (false≢true e)
      first long_address_cell e = absurd (false≢true e)
      first short_address_cell e = absurd (false≢true e)
      first channel e = untouched

      second : (c : Cell) → stores_in model (next model (cells three) (delivery set_channel 5)) y c ≡ true → touches model (cells three) (delivery set_channel 5) c ≡ false
      second pan_id_cell e = refl
      second long_address_cell e = refl
      second short_address_cell e = refl
      second channel e = absurd (true≢false (sym e ∙ unstored))

channel_and_pan_id : Apart model (cells three) (delivery set_channel 5) (delivery set_pan 5)
unfolding byte_sum fits_in packet_bytes read_frame decide
channel_and_pan_id = besides_channel (delivery set_pan 5) refl refl

module _ (rest : List Delivery) where
  swapped :
      (after (delivery set_pan 5 ∷ delivery set_channel 5 ∷ rest) ≡ after (delivery set_channel 5 ∷ delivery set_pan 5 ∷ rest))
      × (results model machine three (delivery set_pan 5 ∷ delivery set_channel 5 ∷ rest)
      ≡ swap_at 0 (results model machine three (delivery set_channel 5 ∷ delivery set_pan 5 ∷ rest)))
  unfolding run
  swapped =
      (sequence_theorem three three-lengths (delivery set_channel 5 ∷ delivery set_pan 5 ∷ rest)
      ).exchange [] (delivery set_channel 5) (delivery set_pan 5) rest refl channel_and_pan_id

  first_two :
      take 2 (results model machine three (delivery set_pan 5 ∷ delivery set_channel 5 ∷ rest))
      ≡ accepted (0x01 ∷ 0x05 ∷ 0x81 ∷ 0x87 ∷ 0x04 ∷ []) ∷ accepted (0x01 ∷ 0x05 ∷ 0x85 ∷ 0x8B ∷ 0x04 ∷ []) ∷ []
  unfolding results swap_at byte_sum fits_in packet_bytes read_frame answer stored validate result_of step
  first_two = ap (take 2) swapped.1

channel_and_query : Apart model (cells three) (delivery set_channel 5) (delivery ask_pan 7)
unfolding byte_sum fits_in packet_bytes read_frame decide
channel_and_query = besides_channel (delivery ask_pan 7) refl refl

exchanged_with_query : (rest : List Delivery) → after (delivery ask_pan 7 ∷ delivery set_channel 5 ∷ rest) ≡ after (delivery set_channel 5 ∷ delivery ask_pan 7 ∷ rest)
unfolding run
exchanged_with_query rest =
    ((sequence_theorem three three-lengths (delivery set_channel 5 ∷ delivery ask_pan 7 ∷ rest)
    ).exchange [] (delivery set_channel 5) (delivery ask_pan 7) rest refl channel_and_query).0

not_apart : Apart model (cells three) (delivery set_channel 5) (delivery ask_channel 6) → ⊥
unfolding byte_sum fits_in packet_bytes read_frame decide
not_apart apart = true≢false (apart.first-stores channel refl)

pub sentences_hold : Sentences
unfolding byte_sum packet_bytes
sentences_hold = record {
  any-channel = any-channel;
  any-address = any-address;
  any_pan_id = any_pan_id;
  no_pan_id = no_pan_id;
  no_data = no_data;
  no_type = no_type;
  address-accepted = address_laid_out.message-accepted;
  address_packet = address_laid_out.packet_is;
  address-place = address_laid_out.data_within;
  address_small = address_laid_out.data_small;
  set_packet = (read_is_laid_out set_pan (record { kind = 0x01; data_length = 2 }) set-read).packet_is;
  one_answer = λ r e. answer_determined r (Ok (record { kind = 0x84; data_length = 10 })) (e ∙ address_read);
  in_buffer = in_buffer;
  any-channel_in-buffer = any-channel_in-buffer;
  set-again = read_is_written set_pan (record { kind = 0x01; data_length = 2 }) 7 set-read (omega arith);
  again = (
    read_is_written address_block (record { kind = 0x84; data_length = 10 }) 15 address_read (omega arith),
    read_is_written address_block (record { kind = 0x84; data_length = 10 }) 20 address_read (omega arith),
  );
  reader_numbers = read-refusal;
  writer_numbers = write-refusal;
  message-numbers = refusal-numbers;
  address-told = address-told;
  channel-told = channel-told;
  set-acknowledged = set-acknowledged;
  last-channel = last-channel;
  last_pan_id = last_pan_id;
  first-addresses = first-addresses;
  pan_id_told = pan_id_told;
  addresses-told = addresses-told;
  set-channel-told = set-channel-told;
  damaged-between = damaged-between;
  pan_id_left = λ s x other. (only_sets s x).0 other;
  addresses-left = λ s x other. (only_sets s x).1 other;
  channel-left = λ s x other. (only_sets s x).2 other;
  reset-left = λ s room. reset-leaves s (delivery reset_radio room) refl;
  refused-left = λ s x e. refused-leaves s x 13 (has-number (result_of s x) 12 e);
  pan_id_stays = λ x. (pan_id_kept three x three-lengths).0;
  over-refuses = λ x packet e. false≢true ((pan_id_kept over x over-lengths).1 packet e);
  over_stays = λ x. (pan_id_kept over x over-lengths).0;
  cells-after = cells-after;
  numbers_after = numbers_after;
  bytes_after = bytes_after;
  long-address-kept = long-address-kept;
  damaged-left = damaged-left;
  exchanged = λ rest. ((swapped rest).0, first_two rest);
  exchanged_with_query = exchanged_with_query;
  not_apart = not_apart;
  nothing_hidden = claims.nothing_hidden;
}
