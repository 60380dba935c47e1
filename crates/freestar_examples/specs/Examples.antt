-- Document 02, Ask 11, and document 004: messages byte by byte, what each is read as, what is written, and what it does to settings. The refusals
-- have the paper's own numbers.
use Rattle.std.specs.Prelude.{ℕ, ◌≡◌, List, [], ◌∷◌, length, replicate}
use Rattle.refusal.specs.Refusal.{Result, accepted, refused, outcome_of, buffer_after}
use Rattle.freestar_packet.specs.Read.{read_packet, Content, content, read_content}
use Rattle.freestar_packet.specs.Encode.{encode}
use Rattle.freestar_model.specs.Model.{delivery}
use Rattle.freestar_settings.specs.declared.Settings.{Settings}
use Rattle.freestar_settings.specs.Settings.{settings, step, result_of}
use Rattle.freestar_c.specs.declared.MessageFields.{MessageFields}
use Rattle.freestar_c.specs.Fields.{message_fields}

-- what is called
pub data Call : Type 0 where
  on_block : (block : List ℕ) → Call
  on_fields : (block : List ℕ) → Call
  on_content : (type : ℕ) (bytes buffer : List ℕ) → Call
  on_settings : Settings → (block buffer : List ℕ) → Call

-- what comes of it: a message or a refusal, the numbers of a C struct, of a writer the refusal, the length and the buffer afterwards, and with
-- these the settings afterwards
pub data Answer : Type 0 where
  message : Content → Answer
  refusal : (number : ℕ) → Answer
  numbers : List ℕ → Answer
  left : (refusal count : ℕ) (buffer : List ℕ) → Answer
  both : Settings → Answer → Answer

abbrev pub said : Result Content → Answer
said (accepted c) = message c
said (refused n) = refusal n

abbrev pub leaves : Result (List ℕ) → List ℕ → Answer
leaves r buffer = left (outcome_of r).refusal (outcome_of r).length (buffer_after r buffer)

-- the fields in the order of the C struct
abbrev pub listed : MessageFields → List ℕ
listed f = f.refusal ∷ f.kind ∷ f.data_length ∷ []

abbrev pub answer : Call → Answer
answer (on_block block) = said (read_content block)
answer (on_fields block) = numbers (listed (message_fields (read_packet block)))
answer (on_content type bytes buffer) = leaves (encode type bytes (length buffer)) buffer
answer (on_settings s block buffer) = both (step s (delivery block (length buffer))) (leaves (result_of s (delivery block (length buffer))) buffer)

pub data Example : Type 0 where
  holds : Call → Answer → Example

abbrev pub Holds : Example → Type 0
Holds (holds call expected) = answer call ≡ expected

abbrev pub AllHold : List Example → Type 0
AllHold [] = Unit {0}
AllHold (x ∷ xs) = Holds x × AllHold xs

-- bytes that are all the same, as a buffer before a call
abbrev pub unwritten : ℕ → List ℕ
unwritten n = replicate n 0xEE

-- settings of zeros, with the PAN ID 1234, then with both addresses, then with the channel FF, and with a PAN ID of 16,384
abbrev pub zeros : Settings
zeros = settings (0x00 ∷ 0x00 ∷ []) (replicate 8 0x00) (0x00 ∷ 0x00 ∷ []) 0x00

abbrev pub one : Settings
one = settings (0x34 ∷ 0x12 ∷ []) (replicate 8 0x00) (0x00 ∷ 0x00 ∷ []) 0x00

abbrev pub two : Settings
two = settings (0x34 ∷ 0x12 ∷ []) (0x01 ∷ 0x02 ∷ 0x03 ∷ 0x04 ∷ 0x05 ∷ 0x06 ∷ 0x07 ∷ 0x08 ∷ []) (0x09 ∷ 0x0A ∷ []) 0x00

abbrev pub three : Settings
three = settings (0x34 ∷ 0x12 ∷ []) (0x01 ∷ 0x02 ∷ 0x03 ∷ 0x04 ∷ 0x05 ∷ 0x06 ∷ 0x07 ∷ 0x08 ∷ []) (0x09 ∷ 0x0A ∷ []) 0xFF

abbrev pub over : Settings
over = settings (0x00 ∷ 0x40 ∷ []) (0x01 ∷ 0x02 ∷ 0x03 ∷ 0x04 ∷ 0x05 ∷ 0x06 ∷ 0x07 ∷ 0x08 ∷ []) (0x09 ∷ 0x0A ∷ []) 0xFF

abbrev pub examples : List Example
examples =
    -- each message that the host sends
    holds (on_block (0x01 ∷ 0x07 ∷ 0x01 ∷ 0x34 ∷ 0x12 ∷ 0x4F ∷ 0x04 ∷ [])) (message (content 0x01 (0x34 ∷ 0x12 ∷ []))) ∷
    holds (on_block (0x01 ∷ 0x05 ∷ 0x02 ∷ 0x08 ∷ 0x04 ∷ [])) (message (content 0x02 [])) ∷
    holds (on_block (0x01 ∷ 0x0F ∷ 0x03 ∷ 0x01 ∷ 0x02 ∷ 0x03 ∷ 0x04 ∷ 0x05 ∷ 0x06 ∷ 0x07 ∷ 0x08 ∷ 0x09 ∷ 0x0A ∷ 0x4A ∷ 0x04 ∷ [])) (message (content 0x03 (0x01 ∷ 0x02 ∷ 0x03 ∷ 0x04 ∷ 0x05 ∷ 0x06 ∷ 0x07 ∷ 0x08 ∷ 0x09 ∷ 0x0A ∷ []))) ∷
    holds (on_block (0x01 ∷ 0x05 ∷ 0x04 ∷ 0x0A ∷ 0x04 ∷ [])) (message (content 0x04 [])) ∷
    holds (on_block (0x01 ∷ 0x06 ∷ 0x05 ∷ 0xFF ∷ 0x0B ∷ 0x04 ∷ [])) (message (content 0x05 (0xFF ∷ []))) ∷
    holds (on_block (0x01 ∷ 0x05 ∷ 0x06 ∷ 0x0C ∷ 0x04 ∷ [])) (message (content 0x06 [])) ∷
    holds (on_block (0x01 ∷ 0x05 ∷ 0x18 ∷ 0x1E ∷ 0x04 ∷ [])) (message (content 0x18 [])) ∷
    -- each answer
    holds (on_block (0x01 ∷ 0x05 ∷ 0x81 ∷ 0x87 ∷ 0x04 ∷ [])) (message (content 0x81 [])) ∷
    holds (on_block (0x01 ∷ 0x07 ∷ 0x82 ∷ 0x34 ∷ 0x12 ∷ 0xD0 ∷ 0x04 ∷ [])) (message (content 0x82 (0x34 ∷ 0x12 ∷ []))) ∷
    holds (on_block (0x01 ∷ 0x05 ∷ 0x83 ∷ 0x89 ∷ 0x04 ∷ [])) (message (content 0x83 [])) ∷
    holds (on_block (0x01 ∷ 0x0F ∷ 0x84 ∷ 0x01 ∷ 0x02 ∷ 0x03 ∷ 0x04 ∷ 0x05 ∷ 0x06 ∷ 0x07 ∷ 0x08 ∷ 0x09 ∷ 0x0A ∷ 0xCB ∷ 0x04 ∷ [])) (message (content 0x84 (0x01 ∷ 0x02 ∷ 0x03 ∷ 0x04 ∷ 0x05 ∷ 0x06 ∷ 0x07 ∷ 0x08 ∷ 0x09 ∷ 0x0A ∷ []))) ∷
    holds (on_block (0x01 ∷ 0x05 ∷ 0x85 ∷ 0x8B ∷ 0x04 ∷ [])) (message (content 0x85 [])) ∷
    holds (on_block (0x01 ∷ 0x06 ∷ 0x86 ∷ 0xFF ∷ 0x8C ∷ 0x04 ∷ [])) (message (content 0x86 (0xFF ∷ []))) ∷
    holds (on_block (0x01 ∷ 0x05 ∷ 0x98 ∷ 0x9E ∷ 0x04 ∷ [])) (message (content 0x98 [])) ∷
    -- the largest PAN ID that has 14 bits
    holds (on_block (0x01 ∷ 0x07 ∷ 0x01 ∷ 0xFF ∷ 0x3F ∷ 0x47 ∷ 0x04 ∷ [])) (message (content 0x01 (0xFF ∷ 0x3F ∷ []))) ∷
    -- 24: an empty block, one byte, another first byte, and another last one
    holds (on_block []) (refusal 24) ∷
    holds (on_block (0x01 ∷ [])) (refusal 24) ∷
    holds (on_block (0x04 ∷ [])) (refusal 24) ∷
    holds (on_block (0x02 ∷ 0x05 ∷ 0x02 ∷ 0x08 ∷ 0x04 ∷ [])) (refusal 24) ∷
    holds (on_block (0x01 ∷ 0x05 ∷ 0x02 ∷ 0x08 ∷ 0x05 ∷ [])) (refusal 24) ∷
    -- 25: a total under 5, also where it is the block's length, and one that is not the block's length
    holds (on_block (0x01 ∷ 0x04 ∷ [])) (refusal 25) ∷
    holds (on_block (0x01 ∷ 0x03 ∷ 0x04 ∷ [])) (refusal 25) ∷
    holds (on_block (0x01 ∷ 0x04 ∷ 0x02 ∷ 0x04 ∷ [])) (refusal 25) ∷
    holds (on_block (0x01 ∷ 0x06 ∷ 0x02 ∷ 0x08 ∷ 0x04 ∷ [])) (refusal 25) ∷
    holds (on_block (0x01 ∷ 0x04 ∷ 0x02 ∷ 0x08 ∷ 0x04 ∷ [])) (refusal 25) ∷
    -- 26: the start byte left out of the sum, the length byte too, and one more
    holds (on_block (0x01 ∷ 0x05 ∷ 0x02 ∷ 0x07 ∷ 0x04 ∷ [])) (refusal 26) ∷
    holds (on_block (0x01 ∷ 0x05 ∷ 0x02 ∷ 0x02 ∷ 0x04 ∷ [])) (refusal 26) ∷
    holds (on_block (0x01 ∷ 0x05 ∷ 0x02 ∷ 0x09 ∷ 0x04 ∷ [])) (refusal 26) ∷
    -- 26: 004's printed sums that are wrong, A5, A7 and A8; with the right sums they are 27
    holds (on_block (0x01 ∷ 0x05 ∷ 0xA5 ∷ 0xA9 ∷ 0x04 ∷ [])) (refusal 26) ∷
    holds (on_block (0x01 ∷ 0x05 ∷ 0xA7 ∷ 0xA6 ∷ 0x04 ∷ [])) (refusal 26) ∷
    holds (on_block (0x01 ∷ 0x05 ∷ 0xA8 ∷ 0xA6 ∷ 0x04 ∷ [])) (refusal 26) ∷
    holds (on_block (0x01 ∷ 0x05 ∷ 0xA5 ∷ 0xAB ∷ 0x04 ∷ [])) (refusal 27) ∷
    holds (on_block (0x01 ∷ 0x05 ∷ 0xA8 ∷ 0xAE ∷ 0x04 ∷ [])) (refusal 27) ∷
    holds (on_block (0x01 ∷ 0x05 ∷ 0xA7 ∷ 0xAD ∷ 0x04 ∷ [])) (refusal 27) ∷
    -- 27: a type that is not served, 8F for the address as 004's table of fields has it, and data of another length
    holds (on_block (0x01 ∷ 0x05 ∷ 0x07 ∷ 0x0D ∷ 0x04 ∷ [])) (refusal 27) ∷
    holds (on_block (0x01 ∷ 0x0F ∷ 0x8F ∷ 0x01 ∷ 0x02 ∷ 0x03 ∷ 0x04 ∷ 0x05 ∷ 0x06 ∷ 0x07 ∷ 0x08 ∷ 0x09 ∷ 0x0A ∷ 0xD6 ∷ 0x04 ∷ [])) (refusal 27) ∷
    holds (on_block (0x01 ∷ 0x05 ∷ 0x01 ∷ 0x07 ∷ 0x04 ∷ [])) (refusal 27) ∷
    holds (on_block (0x01 ∷ 0x06 ∷ 0x02 ∷ 0x00 ∷ 0x09 ∷ 0x04 ∷ [])) (refusal 27) ∷
    holds (on_block (0x01 ∷ 0x05 ∷ 0x05 ∷ 0x0B ∷ 0x04 ∷ [])) (refusal 27) ∷
    holds (on_block (0x01 ∷ 0x07 ∷ 0x05 ∷ 0x0B ∷ 0x00 ∷ 0x18 ∷ 0x04 ∷ [])) (refusal 27) ∷
    -- 28: bit 14 set, bit 15 set, and in the answer 82
    holds (on_block (0x01 ∷ 0x07 ∷ 0x01 ∷ 0x00 ∷ 0x40 ∷ 0x49 ∷ 0x04 ∷ [])) (refusal 28) ∷
    holds (on_block (0x01 ∷ 0x07 ∷ 0x01 ∷ 0x00 ∷ 0x80 ∷ 0x89 ∷ 0x04 ∷ [])) (refusal 28) ∷
    holds (on_block (0x01 ∷ 0x07 ∷ 0x82 ∷ 0x00 ∷ 0x40 ∷ 0xCA ∷ 0x04 ∷ [])) (refusal 28) ∷
    -- the fields of a message, and of a refusal
    holds (on_fields (0x01 ∷ 0x0F ∷ 0x84 ∷ 0x01 ∷ 0x02 ∷ 0x03 ∷ 0x04 ∷ 0x05 ∷ 0x06 ∷ 0x07 ∷ 0x08 ∷ 0x09 ∷ 0x0A ∷ 0xCB ∷ 0x04 ∷ [])) (numbers (0 ∷ 132 ∷ 10 ∷ [])) ∷
    holds (on_fields (0x01 ∷ 0x05 ∷ 0x18 ∷ 0x1E ∷ 0x04 ∷ [])) (numbers (0 ∷ 24 ∷ 0 ∷ [])) ∷
    holds (on_fields (0x01 ∷ 0x07 ∷ 0x82 ∷ 0x00 ∷ 0x40 ∷ 0xCA ∷ 0x04 ∷ [])) (numbers (28 ∷ 0 ∷ 0 ∷ [])) ∷
    -- a message over the front of a longer buffer, whose last byte stays, and over buffers of its length
    holds (on_content 0x01 (0x34 ∷ 0x12 ∷ []) (unwritten 8)) (left 0 7 (0x01 ∷ 0x07 ∷ 0x01 ∷ 0x34 ∷ 0x12 ∷ 0x4F ∷ 0x04 ∷ 0xEE ∷ [])) ∷
    holds (on_content 0x84 (0x01 ∷ 0x02 ∷ 0x03 ∷ 0x04 ∷ 0x05 ∷ 0x06 ∷ 0x07 ∷ 0x08 ∷ 0x09 ∷ 0x0A ∷ []) (unwritten 15)) (left 0 15 (0x01 ∷ 0x0F ∷ 0x84 ∷ 0x01 ∷ 0x02 ∷ 0x03 ∷ 0x04 ∷ 0x05 ∷ 0x06 ∷ 0x07 ∷ 0x08 ∷ 0x09 ∷ 0x0A ∷ 0xCB ∷ 0x04 ∷ [])) ∷
    holds (on_content 0x98 [] (unwritten 5)) (left 0 5 (0x01 ∷ 0x05 ∷ 0x98 ∷ 0x9E ∷ 0x04 ∷ [])) ∷
    -- 27, then 28, then 13: a wrong length of data is 27 with a PAN ID that is over, and 28 needs no room
    holds (on_content 0x07 (0x0D ∷ []) []) (left 27 0 []) ∷
    holds (on_content 0x01 (0x00 ∷ 0x40 ∷ 0x00 ∷ []) []) (left 27 0 []) ∷
    holds (on_content 0x01 (0x00 ∷ 0x40 ∷ []) []) (left 28 0 []) ∷
    holds (on_content 0x82 (0xFF ∷ 0xFF ∷ []) (unwritten 7)) (left 28 0 (unwritten 7)) ∷
    holds (on_content 0x01 (0xFF ∷ 0x3F ∷ []) (unwritten 6)) (left 13 0 (unwritten 6)) ∷
    holds (on_content 0x18 [] (unwritten 4)) (left 13 0 (unwritten 4)) ∷
    -- the messages in a row, from settings of zeros
    holds (on_settings zeros (0x01 ∷ 0x07 ∷ 0x01 ∷ 0x34 ∷ 0x12 ∷ 0x4F ∷ 0x04 ∷ []) (unwritten 6)) (both one (left 0 5 (0x01 ∷ 0x05 ∷ 0x81 ∷ 0x87 ∷ 0x04 ∷ 0xEE ∷ []))) ∷
    holds (on_settings one (0x01 ∷ 0x05 ∷ 0x02 ∷ 0x08 ∷ 0x04 ∷ []) (unwritten 7)) (both one (left 0 7 (0x01 ∷ 0x07 ∷ 0x82 ∷ 0x34 ∷ 0x12 ∷ 0xD0 ∷ 0x04 ∷ []))) ∷
    holds (on_settings one (0x01 ∷ 0x0F ∷ 0x03 ∷ 0x01 ∷ 0x02 ∷ 0x03 ∷ 0x04 ∷ 0x05 ∷ 0x06 ∷ 0x07 ∷ 0x08 ∷ 0x09 ∷ 0x0A ∷ 0x4A ∷ 0x04 ∷ []) (unwritten 5)) (both two (left 0 5 (0x01 ∷ 0x05 ∷ 0x83 ∷ 0x89 ∷ 0x04 ∷ []))) ∷
    holds (on_settings two (0x01 ∷ 0x05 ∷ 0x04 ∷ 0x0A ∷ 0x04 ∷ []) (unwritten 15)) (both two (left 0 15 (0x01 ∷ 0x0F ∷ 0x84 ∷ 0x01 ∷ 0x02 ∷ 0x03 ∷ 0x04 ∷ 0x05 ∷ 0x06 ∷ 0x07 ∷ 0x08 ∷ 0x09 ∷ 0x0A ∷ 0xCB ∷ 0x04 ∷ []))) ∷
    holds (on_settings two (0x01 ∷ 0x06 ∷ 0x05 ∷ 0xFF ∷ 0x0B ∷ 0x04 ∷ []) (unwritten 5)) (both three (left 0 5 (0x01 ∷ 0x05 ∷ 0x85 ∷ 0x8B ∷ 0x04 ∷ []))) ∷
    holds (on_settings three (0x01 ∷ 0x05 ∷ 0x06 ∷ 0x0C ∷ 0x04 ∷ []) (unwritten 6)) (both three (left 0 6 (0x01 ∷ 0x06 ∷ 0x86 ∷ 0xFF ∷ 0x8C ∷ 0x04 ∷ []))) ∷
    holds (on_settings three (0x01 ∷ 0x05 ∷ 0x18 ∷ 0x1E ∷ 0x04 ∷ []) (unwritten 5)) (both three (left 0 5 (0x01 ∷ 0x05 ∷ 0x98 ∷ 0x9E ∷ 0x04 ∷ []))) ∷
    -- 24, 25 and 26 on settings
    holds (on_settings three [] (unwritten 15)) (both three (left 24 0 (unwritten 15))) ∷
    holds (on_settings three (0x01 ∷ 0x04 ∷ 0x02 ∷ 0x04 ∷ []) (unwritten 15)) (both three (left 25 0 (unwritten 15))) ∷
    holds (on_settings three (0x01 ∷ 0x06 ∷ 0x05 ∷ 0x00 ∷ 0x0B ∷ 0x04 ∷ []) (unwritten 15)) (both three (left 26 0 (unwritten 15))) ∷
    -- 27: a type that is not served, and those that the radio sends, also with a PAN ID that is over
    holds (on_settings three (0x01 ∷ 0x05 ∷ 0x07 ∷ 0x0D ∷ 0x04 ∷ []) (unwritten 15)) (both three (left 27 0 (unwritten 15))) ∷
    holds (on_settings three (0x01 ∷ 0x05 ∷ 0x81 ∷ 0x87 ∷ 0x04 ∷ []) (unwritten 15)) (both three (left 27 0 (unwritten 15))) ∷
    holds (on_settings three (0x01 ∷ 0x07 ∷ 0x82 ∷ 0x00 ∷ 0x40 ∷ 0xCA ∷ 0x04 ∷ []) (unwritten 15)) (both three (left 27 0 (unwritten 15))) ∷
    -- 28: a PAN ID that is over in the message, before 13
    holds (on_settings three (0x01 ∷ 0x07 ∷ 0x01 ∷ 0x00 ∷ 0x40 ∷ 0x49 ∷ 0x04 ∷ []) []) (both three (left 28 0 [])) ∷
    -- 28: a PAN ID that is over in the settings, for every message, before 13; 27 is before it
    holds (on_settings over (0x01 ∷ 0x05 ∷ 0x02 ∷ 0x08 ∷ 0x04 ∷ []) (unwritten 15)) (both over (left 28 0 (unwritten 15))) ∷
    holds (on_settings over (0x01 ∷ 0x05 ∷ 0x18 ∷ 0x1E ∷ 0x04 ∷ []) []) (both over (left 28 0 [])) ∷
    holds (on_settings over (0x01 ∷ 0x07 ∷ 0x01 ∷ 0x34 ∷ 0x12 ∷ 0x4F ∷ 0x04 ∷ []) (unwritten 15)) (both over (left 28 0 (unwritten 15))) ∷
    holds (on_settings over (0x01 ∷ 0x05 ∷ 0x07 ∷ 0x0D ∷ 0x04 ∷ []) (unwritten 15)) (both over (left 27 0 (unwritten 15))) ∷
    -- 13: one byte of room too few for each length of an answer; nothing is set
    holds (on_settings one (0x01 ∷ 0x05 ∷ 0x02 ∷ 0x08 ∷ 0x04 ∷ []) (unwritten 6)) (both one (left 13 0 (unwritten 6))) ∷
    holds (on_settings two (0x01 ∷ 0x05 ∷ 0x04 ∷ 0x0A ∷ 0x04 ∷ []) (unwritten 14)) (both two (left 13 0 (unwritten 14))) ∷
    holds (on_settings three (0x01 ∷ 0x05 ∷ 0x06 ∷ 0x0C ∷ 0x04 ∷ []) (unwritten 5)) (both three (left 13 0 (unwritten 5))) ∷
    holds (on_settings zeros (0x01 ∷ 0x07 ∷ 0x01 ∷ 0x34 ∷ 0x12 ∷ 0x4F ∷ 0x04 ∷ []) (unwritten 4)) (both zeros (left 13 0 (unwritten 4))) ∷
    []
