-- The sentences, each drawn from a clause of the theorem; only what literal bytes are read as is computed.
-- Assumes nothing.
use Prim.Native.Nat.{ℕ, zero, suc, ◌+◌, ◌<◌, ◌≤◌}
use mathlib.Core.Path.{◌≡◌, refl, sym, ap, ◌∙◌, subst}
use mathlib.Core.Bool.{true, false}
use mathlib.Core.List.{List, [], ◌∷◌, ◌++◌}
use native.Mathlib.Omega.{arith}
use borrow.Author.Tests.{lt-ltb, le-leb, lt-leb}
use lib.Dec.{ltb}
use lib.ListN.{length, take, drop, replicate, get_or-replicate}
use lib.Seq.{drop-drop}
use Rattle.std.specs.Prelude.{Err}
use Rattle.logic.specs.Lists.{all, part, Bytes}
use Rattle.cdi_frame.specs.Layout.{response_frame}
use Rattle.logic.specs.Written.{written}
use Rattle.logic.proofs.Bytes.{bytes_of}
use Rattle.refusal.specs.Refusal.{accepted}
use Rattle.cdi_frame.specs.Frame.{wakes, length_at, read_frame}
use Rattle.cdi_item.specs.declared.Item.{Item}
use Rattle.cdi_item.specs.Items.{R, N, W, P, name, tx_power_code, message_select_code, analog_input, paired_module, status, row, items, item_in, item_of}
use Rattle.cdi_item.specs.Values.{accepted_value}
use Rattle.cdi_command.specs.declared.Index.TheVariants.{Slot, Input}
use Rattle.cdi_command.specs.declared.Command.{Command}
use Rattle.cdi_command.specs.declared.Command.TheVariants.{Read as ReadPlain, ReadNv, ReadIndexed, Write, EraseAll}
use Rattle.cdi_command.specs.Command.{select, command_on, parse_item, is_served, is_head_length_right, parse_payload, validate_payload}
use Rattle.cdi_host.specs.Encode.{encode_command}
use Rattle.cdi_decode.specs.Follow.{may_follow_in, may_follow, is_whole}
use Rattle.cdi_decode.specs.declared.ResponseError.TheVariants.{NoSuchResponse}
use Rattle.cdi_decode.specs.Decode.{Reading, response, no_response, first_failing, read_as, read_payload, decode_response, located}
use Rattle.cdi_decode.proofs.Told.{answered_determined}
use Rattle.cdi_state.specs.declared.ModuleState.{ModuleState}
use Rattle.cdi_state.specs.State.{no_slot, empty_slot, factory_state, OffsetLengths}
use Rattle.cdi_valid.specs.Valid.{is_valid}
use Rattle.cdi_value.specs.Value.{setting_value, plain_value}
use Rattle.cdi_model.specs.Action.{action_of}
use Rattle.cdi_module.specs.Module.{command_in, decide, result_of}
use Rattle.cdi_module.proofs.Factory.{factory_lengths, factory_cells_lem}
use Rattle.cdi_responses.specs.Held.{ValidState}
use Rattle.cdi_responses.specs.Theorem.{RespondsIn, Possible, Means, told}
use Rattle.cdi_responses.proofs.Fit.{factory_fits}
use Rattle.cdi_responses.proofs.Exchange.{one-exchange}
use Rattle.cdi_responses.proofs.Theorem.{reader_theorem}
use Rattle.cdi_responses.proofs.Blocks.{block_theorem, every_circle}
use Rattle.response_examples.specs.Sentences.{unwritten, ask_name, ask_power, ask_message, ask_input, ask_slot, ask_status, write_message, Exchange, InputRead, EchoRead, Sentences}

-- ---- the commands that are sent
abbrev name_item : Item
name_item = row name 17 false (R + N)

abbrev power_item : Item
power_item = row tx_power_code 1 false (R + N + W + P)

abbrev message_item : Item
message_item = row message_select_code 1 false (R + N + W + P)

abbrev input_item : Item
input_item = row analog_input 5 true (R + N + W + P)

abbrev slot_item : Item
slot_item = row paired_module 5 true (R + N + P)

abbrev status_item : Item
status_item = row status 4 false R

name-sent : validate_payload ask_name ≡ accepted (ReadPlain name_item)
unfolding items item_in item_of accepted_value select command_on parse_item is_served is_head_length_right parse_payload validate_payload
name-sent = refl

power_sent : validate_payload ask_power ≡ accepted (ReadPlain power_item)
unfolding items item_in item_of accepted_value select command_on parse_item is_served is_head_length_right parse_payload validate_payload
power_sent = refl

message-sent : validate_payload ask_message ≡ accepted (ReadPlain message_item)
unfolding items item_in item_of accepted_value select command_on parse_item is_served is_head_length_right parse_payload validate_payload
message-sent = refl

slot_sent : validate_payload ask_slot ≡ accepted (ReadIndexed slot_item (Slot (record { 0 = 39 })))
unfolding items item_in item_of accepted_value select command_on parse_item is_served is_head_length_right parse_payload validate_payload
slot_sent = refl

status-sent : validate_payload ask_status ≡ accepted (ReadPlain status_item)
unfolding items item_in item_of accepted_value select command_on parse_item is_served is_head_length_right parse_payload validate_payload
status-sent = refl

abbrev three : Command
three = Write message_item (record { byte0 = 0x03; byte1 = 0; byte2 = 0; byte3 = 0; byte4 = 0 })

write-sent : validate_payload write_message ≡ accepted three
unfolding items item_in item_of accepted_value select command_on parse_item is_served is_head_length_right parse_payload validate_payload
write-sent = refl

erase_sent : validate_payload (0x82 ∷ []) ≡ accepted EraseAll
unfolding items item_in item_of accepted_value select command_on parse_item is_served is_head_length_right parse_payload validate_payload
erase_sent = refl

-- ---- what a payload is read as, and so what is meant
module _ (sent p : List ℕ) (c : Command) (is : validate_payload sent ≡ accepted c) (bytes : all (λ b. ltb b 256) p ≡ true) where
  meant : (r : Reading) → read_payload c p ≡ r → Means c sent p r
  meant r e = subst (Means c sent p) e (reader_theorem sent p c is (bytes_of p bytes))

-- one byte of message select
message-bytes : (b : ℕ) → b < 256 → all (λ b. ltb b 256) (0xC1 ∷ 0x15 ∷ b ∷ []) ≡ true
message-bytes b h = rw (lt-ltb b 256 h)

message-right : (b : ℕ) → b ≤ 6 → read_payload (ReadPlain message_item) (0xC1 ∷ 0x15 ∷ b ∷ []) ≡ response 2 1
unfolding accepted_value may_follow_in may_follow is_whole first_failing read_as read_payload
message-right b h = rw (le-leb b 6 h)

message_wrong : (b : ℕ) → 7 ≤ b → read_payload (ReadPlain message_item) (0xC1 ∷ 0x15 ∷ b ∷ []) ≡ no_response 2
unfolding accepted_value may_follow_in may_follow is_whole first_failing read_as read_payload
message_wrong b h = rw (lt-leb b 6 (omega arith))

-- ---- literal responses, and what they mean
name-response : read_payload (ReadPlain name_item) (0xC1 ∷ 0x01 ∷ replicate 16 0x41 ++ 0x00 ∷ []) ≡ response 2 17
unfolding accepted_value may_follow_in may_follow is_whole first_failing read_as read_payload
name-response = refl

short-name : read_payload (ReadPlain name_item) (0xC1 ∷ 0x01 ∷ 0x41 ∷ 0x42 ∷ []) ≡ no_response 4
unfolding accepted_value may_follow_in may_follow is_whole first_failing read_as read_payload
short-name = refl

one_letter : read_payload (ReadPlain name_item) (0xC1 ∷ 0x01 ∷ 0x41 ∷ 0x00 ∷ []) ≡ response 2 2
unfolding accepted_value may_follow_in may_follow is_whole first_failing read_as read_payload
one_letter = refl

long-name : read_payload (ReadPlain name_item) (0xC1 ∷ 0x01 ∷ 0x41 ∷ 0x00 ∷ 0x42 ∷ []) ≡ no_response 4
unfolding accepted_value may_follow_in may_follow is_whole first_failing read_as read_payload
long-name = refl

power_response : read_payload (ReadPlain power_item) (0xC1 ∷ 0x13 ∷ 0xEC ∷ []) ≡ response 2 1
unfolding accepted_value may_follow_in may_follow is_whole first_failing read_as read_payload
power_response = refl

abbrev in_slot : Command
in_slot = ReadIndexed slot_item (Slot (record { 0 = 39 }))

slot_response : read_payload in_slot (0xC1 ∷ 0x18 ∷ 0x27 ∷ 0x01 ∷ 0x02 ∷ 0x03 ∷ 0x04 ∷ 0x05 ∷ []) ≡ response 3 5
unfolding accepted_value may_follow_in may_follow is_whole first_failing read_as read_payload
slot_response = refl

masked_slot : read_payload in_slot (0xC1 ∷ 0x18 ∷ 0x27 ∷ 0x00 ∷ 0x00 ∷ 0x00 ∷ 0x00 ∷ 0x01 ∷ []) ≡ no_response 7
unfolding accepted_value may_follow_in may_follow is_whole first_failing read_as read_payload
masked_slot = refl

status-response : read_payload (ReadPlain status_item) (0xC1 ∷ 0x23 ∷ 0x80 ∷ 0xFF ∷ 0xFF ∷ 0xFF ∷ []) ≡ response 2 4
unfolding accepted_value may_follow_in may_follow is_whole first_failing read_as read_payload
status-response = refl

wrong_status : read_payload (ReadPlain status_item) (0xC1 ∷ 0x23 ∷ 0x40 ∷ []) ≡ no_response 2
unfolding accepted_value may_follow_in may_follow is_whole first_failing read_as read_payload
wrong_status = refl

echo_response : read_payload three (0xC0 ∷ 0x00 ∷ 0x02 ∷ 0x15 ∷ 0x03 ∷ []) ≡ response 2 3
unfolding accepted_value may_follow_in may_follow is_whole first_failing read_as read_payload
echo_response = refl

short_echo : read_payload three (0xC0 ∷ 0x00 ∷ 0x02 ∷ 0x15 ∷ []) ≡ no_response 4
unfolding accepted_value may_follow_in may_follow is_whole first_failing read_as read_payload
short_echo = refl

wrong_echo : read_payload three (0xC0 ∷ 0x00 ∷ 0x02 ∷ 0x15 ∷ 0x04 ∷ []) ≡ no_response 4
unfolding accepted_value may_follow_in may_follow is_whole first_failing read_as read_payload
wrong_echo = refl

erase_response : read_payload EraseAll (0xC0 ∷ 0x00 ∷ 0x82 ∷ []) ≡ response 2 1
unfolding accepted_value may_follow_in may_follow is_whole first_failing read_as read_payload
erase_response = refl

-- a name that goes on after its 00, and a slot with a mask and no address
over-name : Means (ReadPlain name_item) ask_name (0xC1 ∷ 0x01 ∷ 0x41 ∷ 0x00 ∷ 0x42 ∷ []) (no_response 4)
over-name = meant ask_name (0xC1 ∷ 0x01 ∷ 0x41 ∷ 0x00 ∷ 0x42 ∷ []) (ReadPlain name_item) name-sent refl (no_response 4) long-name

half_name : Means (ReadPlain name_item) ask_name (0xC1 ∷ 0x01 ∷ 0x41 ∷ 0x42 ∷ []) (no_response 4)
half_name = meant ask_name (0xC1 ∷ 0x01 ∷ 0x41 ∷ 0x42 ∷ []) (ReadPlain name_item) name-sent refl (no_response 4) short-name

bare_mask : Means in_slot ask_slot (0xC1 ∷ 0x18 ∷ 0x27 ∷ 0x00 ∷ 0x00 ∷ 0x00 ∷ 0x00 ∷ 0x01 ∷ []) (no_response 7)
bare_mask = meant ask_slot (0xC1 ∷ 0x18 ∷ 0x27 ∷ 0x00 ∷ 0x00 ∷ 0x00 ∷ 0x00 ∷ 0x01 ∷ []) in_slot slot_sent refl (no_response 7) masked_slot

message_is_possible : (b : ℕ) → b ≤ 6 → Possible ask_message (0xC1 ∷ 0x15 ∷ b ∷ [])
message_is_possible b h =
    (meant ask_message (0xC1 ∷ 0x15 ∷ b ∷ []) (ReadPlain message_item) message-sent (message-bytes b (omega arith)) (response 2 1) (message-right b h)).0

-- a state that responds so, with sixteen wake bytes
an_exchange : Exchange
unfolding written
an_exchange =
    let t = message_is_possible 6 (omega arith) in
    record { state = t.state; is_valid_lem = t.is_valid_lem; result = t.responds 16 unwritten (omega arith) (omega arith) }

-- ---- a block, and the way there and back
abbrev input_two : Command
input_two = ReadIndexed input_item (Input (record { 0 = 2 }))

input-sent : validate_payload ask_input ≡ accepted input_two
unfolding items item_in item_of accepted_value select command_on parse_item is_served is_head_length_right parse_payload validate_payload
input-sent = refl

abbrev input_frame : List ℕ
input_frame = 0x80 ∷ 0xFF ∷ 0x55 ∷ 0x83 ∷ 0x01 ∷ 0x16 ∷ 0x02 ∷ []

input_encoded : encode_command ask_input 1 27 ≡ accepted input_frame
unfolding items item_in item_of accepted_value select command_on parse_item is_served is_head_length_right parse_payload validate_payload encode_command
input_encoded = refl

input_is_back : (s : ModuleState) → ValidState s → InputRead s
unfolding action_of
input_is_back s v =
    let t = every_circle ask_input 1 27 input_frame input_encoded s v unwritten (omega arith) in
    let same : t.sent ≡ input_two = cc (sym t.validated ∙ input-sent) in
    record {
      size = t.size;
      start = t.start;
      count = t.count;
      after = t.after;
      result = t.result;
      decoded = t.decoded;
      within = t.within;
      value = rw same at t.value;
    }

erase_encoded : encode_command (0x82 ∷ []) 16 27 ≡ accepted ((0x80 ∷ replicate 16 0xFF) ++ 0x55 ∷ 0x81 ∷ 0x82 ∷ [])
unfolding items item_in item_of accepted_value select command_on parse_item is_served is_head_length_right parse_payload validate_payload encode_command
erase_encoded = refl

echo_is_back : (s : ModuleState) → ValidState s → (buffer : List ℕ) → 22 ≤ length buffer → EchoRead s buffer
echo_is_back s v buffer room =
    let t = every_circle (0x82 ∷ []) 16 27 ((0x80 ∷ replicate 16 0xFF) ++ 0x55 ∷ 0x81 ∷ 0x82 ∷ []) erase_encoded s v buffer room in
    let same : t.sent ≡ EraseAll = cc (sym t.validated ∙ erase_sent) in
    record {
      size = t.size;
      start = t.start;
      count = t.count;
      after = t.after;
      result = t.result;
      decoded = t.decoded;
      within = t.within;
      value = rw same at t.value;
    }

nv_power_sent : validate_payload (0x03 ∷ 0x13 ∷ []) ≡ accepted (ReadNv power_item)
unfolding items item_in item_of accepted_value select command_on parse_item is_served is_head_length_right parse_payload validate_payload
nv_power_sent = refl

nv_power_response : read_payload (ReadNv power_item) (0xC2 ∷ 0x13 ∷ 0xEC ∷ []) ≡ response 2 1
unfolding accepted_value may_follow_in may_follow is_whole first_failing read_as read_payload
nv_power_response = refl

module _ (block : List ℕ) (bytes : Bytes block) where
  block_is_possible : (start size : ℕ) → decode_response ask_message block ≡ accepted (response start size) → Possible ask_message (drop 3 block)
  block_is_possible start size e =
      let t = block_theorem ask_message block bytes (response start size) e in
      subst (Possible ask_message) (sym (ap (drop 3) t.framed)) t.means.0

  block_is_within : (start size : ℕ) → decode_response ask_message block ≡ accepted (response start size) → 3 + start + size ≡ length block
  block_is_within start size e =
      let t = block_theorem ask_message block bytes (response start size) e in omega (arith, t.means.1, ap length t.framed)

  block_is_impossible : (place : ℕ) → decode_response ask_message block ≡ accepted (no_response place) → Possible ask_message (drop 3 block) → ⊥
  block_is_impossible place e k =
      let t = block_theorem ask_message block bytes (no_response place) e in
      t.means.0 (subst (Possible ask_message) (ap (drop 3) t.framed) k)

  echo_is_told : (start size : ℕ) → decode_response write_message block ≡ accepted (response start size) → part (3 + start) size block ≡ write_message
  echo_is_told start size e =
      let t = block_theorem write_message block bytes (response start size) e in
      let same : t.command ≡ three = cc (sym t.validated ∙ write-sent) in
      let k = t.means.0 in
      let told-so : part start size t.payload ≡ told k.state t.command write_message = t.means.2 k.state k.is_valid_lem k.responds in
      ap (part (3 + start) size) t.framed ∙
      ap (take size) (sym (drop-drop start 3 (response_frame t.payload))) ∙
      told-so ∙ ap (λ (c : Command). told k.state c write_message) same

  block-placed : (place : ℕ) → decode_response ask_message block ≡ accepted (no_response place) → 3 + place ≤ length block
  block-placed place e =
      let t = block_theorem ask_message block bytes (no_response place) e in omega (arith, t.means.2, ap length t.framed)

-- ---- responses whose first byte is wrong
kind_wrong : located (decode_response ask_message (response_frame (0xC2 ∷ 0x15 ∷ 0x06 ∷ []))) ≡ accepted (no_response 0)
unfolding wakes length_at read_frame items item_in item_of accepted_value select command_on parse_item is_served is_head_length_right parse_payload validate_payload may_follow_in may_follow is_whole first_failing read_as read_payload decode_response
kind_wrong = refl

ack_wrong : located (decode_response write_message (response_frame (0xC1 ∷ 0x15 ∷ 0x03 ∷ []))) ≡ accepted (no_response 0)
unfolding wakes length_at read_frame items item_in item_of accepted_value select command_on parse_item is_served is_head_length_right parse_payload validate_payload may_follow_in may_follow is_whole first_failing read_as read_payload decode_response
ack_wrong = refl

-- ---- the factory state
factory_is_valid : ValidState factory_state
unfolding is_valid accepted_value
factory_is_valid = record {
  valid = refl;
  array_lengths = factory_lengths;
  field_lengths = record {
    stored-lengths = record {
      name-length = refl;
      firmware-length = refl;
      serial-length = refl;
      address-length = refl;
      offset_length = offsets;
      slot_address_length = λ i h. ap (λ x. length x.address) (get_or-replicate 40 i empty_slot no_slot h);
    };
    working_offset_length = offsets;
    lines-length = refl;
    rssi-length = refl;
  };
  in_bytes = λ c e. rw (factory_cells_lem c e) (factory_fits c e).bytes;
}
  where
    offsets : OffsetLengths factory_state.stored.settings
    offsets zero h = refl
    offsets (suc zero) h = refl
    offsets (suc (suc i)) h = absurd (omega arith)

-- one exchange on it, computed
factory_once : RespondsIn 0 unwritten factory_state ask_message (0xC1 ∷ 0x15 ∷ 0x00 ∷ [])
unfolding wakes length_at read_frame items item_in item_of accepted_value select command_on parse_item is_served is_head_length_right parse_payload validate_payload is_valid command_in decide result_of plain_value setting_value
factory_once = refl

pub sentences : Sentences
unfolding action_of
sentences = record {
  message-possible = message_is_possible;
  status-possible = (meant ask_status _ (ReadPlain status_item) status-sent refl (response 2 4) status-response).0;
  name-possible = (meant ask_name _ (ReadPlain name_item) name-sent refl (response 2 17) name-response).0;
  echo_possible = (meant write_message _ three write-sent refl (response 2 3) echo_response).0;
  erase_possible = (meant (0x82 ∷ []) _ EraseAll erase_sent refl (response 2 1) erase_response).0;
  exchange = an_exchange;
  message_impossible = λ b h k. (meant ask_message _ (ReadPlain message_item) message-sent (message-bytes b k) (no_response 2) (message_wrong b h)).0;
  echo_impossible = (meant write_message _ three write-sent refl (no_response 4) short_echo).0;
  name_impossible = half_name.0;
  power_told = λ s v r. sym ((meant ask_power _ (ReadPlain power_item) power_sent refl (response 2 1) power_response).2 s v r);
  nv_power_told = λ s v r. sym ((meant (0x03 ∷ 0x13 ∷ []) _ (ReadNv power_item) nv_power_sent refl (response 2 1) nv_power_response).2 s v r);
  slot_told = λ s v r. sym ((meant ask_slot _ in_slot slot_sent refl (response 3 5) slot_response).2 s v r);
  name-told = λ s v r. sym ((meant ask_name _ (ReadPlain name_item) name-sent refl (response 2 2) one_letter).2 s v r);
  name-begins = over-name.1;
  name-ends = over-name.3 (omega arith);
  name_goes_on = half_name.1;
  slot_begins = bare_mask.1;
  slot_ends = bare_mask.3 (omega arith);
  status-ends = (meant ask_status _ (ReadPlain status_item) status-sent refl (no_response 2) wrong_status).3 (omega arith);
  echo_ends = (meant write_message _ three write-sent refl (no_response 4) wrong_echo).3 (omega arith);
  block-possible = block_is_possible;
  block_within = block_is_within;
  block_impossible = block_is_impossible;
  echo_told = echo_is_told;
  block-place = block-placed;
  one_answer = λ r e. answered_determined r (Err (NoSuchResponse 0)) (e ∙ kind_wrong);
  one_echo = λ r e. answered_determined r (Err (NoSuchResponse 0)) (e ∙ ack_wrong);
  input_back = input_is_back;
  echo_back = echo_is_back;
  valid-enough = λ s v a f b. record { valid = v; array_lengths = a; field_lengths = f; in_bytes = b };
  factory_valid = factory_is_valid;
  factory_responds = one-exchange factory_state factory_is_valid.valid ask_message (ReadPlain message_item) message-sent 0 unwritten (0xC1 ∷ 0x15 ∷ 0x00 ∷ []) (omega arith) (omega arith) factory_once;
}
