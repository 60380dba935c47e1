-- Document 01, "Numbers that a refusal carries": the number of each case of the source's enum, and what an answer of the source is as a
-- result of the definitions.
use Rattle.std.specs.Prelude.{◌≡◌, ℕ, cond, ltb, List, length, Ok, Err}
use Rattle.std.specs.Prelude as std
use Rattle.refusal.specs.declared.Refusal.{Refusal}
use Rattle.refusal.specs.declared.Refusal.TheVariants as case
use Rattle.refusal.specs.declared.Outcome.{Outcome}
use Rattle.refusal.specs.Refusal.{Result, accepted, refused, none, frame_buffer_short, outcome, buffer_after}
use Rattle.refusal.specs.Refusal as paper

-- the number of each refusal
abbrev pub number_of : Refusal → ℕ
number_of case.ResponseBufferShort = paper.response_buffer_short
number_of case.Invalid = paper.invalid
number_of case.EndsEarly = paper.ends_early
number_of case.BadStart = paper.bad_start
number_of case.BadLengthByte = paper.bad_length_byte
number_of case.TrailingBytes = paper.trailing_bytes
number_of case.CommandNotServed = paper.command_not_served
number_of case.WrongLength = paper.wrong_length
number_of case.ItemNotServed = paper.item_not_served
number_of case.NotPermitted = paper.not_permitted
number_of case.WrongIndex = paper.wrong_index
number_of case.ValueNotAccepted = paper.value_not_accepted
number_of case.FrameBufferShort = paper.frame_buffer_short
number_of case.WakeCountOver = paper.wake_count_over
number_of case.ReadingCount = paper.reading_count
number_of case.ReadingOver = paper.reading_over
number_of case.ImageLength = paper.image_length
number_of case.ImageMark = paper.image_mark
number_of case.ImageVersion = paper.image_version
number_of case.NoSuchResponse = paper.no_such_response
number_of case.PacketEnds = paper.packet_ends
number_of case.PacketLength = paper.packet_length
number_of case.PacketSum = paper.packet_sum
number_of case.PacketContent = paper.packet_content
number_of case.PanIdOver = paper.pan_id_over

-- an answer of the source as a result: a value, or the number of the refusal
abbrev pub answer : {A : Type 0} → std.Result A Refusal → Result A
answer (Ok x) = accepted x
answer (Err e) = refused (number_of e)

-- the same of an answer whose refusal may be any value with a number
abbrev pub answer_by : {A E : Type 0} → (E → ℕ) → std.Result A E → Result A
answer_by number (Ok x) = accepted x
answer_by number (Err e) = refused (number e)

-- what a writer answers: how many bytes it writes, or the number of the refusal
abbrev pub length_of : Result (List ℕ) → Result ℕ
length_of (accepted bytes) = accepted (length bytes)
length_of (refused n) = refused n

-- the outcome that tells an answer to C
abbrev pub outcome_from : std.Result ℕ Refusal → Outcome
outcome_from (Ok n) = outcome none n
outcome_from (Err e) = outcome (number_of e) 0

-- the outcome of an answer whose refusal may be any value with a number
abbrev pub outcome_by : {E : Type 0} → (E → ℕ) → std.Result ℕ E → Outcome
outcome_by number (Ok n) = outcome none n
outcome_by number (Err e) = outcome (number e) 0

-- 13: a packet is written if a buffer with so much room is as long as this packet
abbrev pub in_room : ℕ → List ℕ → Result (List ℕ)
in_room room packet = cond (ltb room (length packet)) (refused frame_buffer_short) (accepted packet)

-- what a writer promises of its answer, and of the buffer before it and after it: the bytes are written over the front, or none where it refuses
abbrev pub WritesIfAccepted : Result (List ℕ) → List ℕ → List ℕ → std.Result ℕ Refusal → Type 0
WritesIfAccepted r old new result = (answer result ≡ length_of r) × (new ≡ buffer_after r old)
