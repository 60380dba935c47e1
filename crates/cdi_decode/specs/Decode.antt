-- Document 02, Ask 1: what the reader says of a response to a command that was sent.
use Rattle.std.specs.Prelude.{ℕ, zero, suc, ◌+◌, ◌-◌, List, Bool, cond, ◌&&◌, eqb, length, get_or, take, Ok, Err}
use Rattle.std.specs.Prelude as std
use Rattle.refusal.specs.Refusal.{Result, accepted, refused, and_then, none, no_such_response}
use Rattle.refusal.specs.Numbers.{number_of}
use Rattle.cdi_frame.specs.declared.Span.{Span}
use Rattle.cdi_frame.specs.Frame.{read_frame, payload_in}
use Rattle.cdi_item.specs.declared.Item.{Item}
use Rattle.cdi_command.specs.declared.Command.{Command}
use Rattle.cdi_command.specs.Command.{validate_payload}
use Rattle.cdi_command.specs.Kind.{is_read}
use Rattle.cdi_decode.specs.declared.Decoded.{Decoded}
use Rattle.cdi_decode.specs.declared.ResponseError.{ResponseError}
use Rattle.cdi_decode.specs.declared.ResponseError.TheVariants.{Refused, NoSuchResponse}
use Rattle.cdi_decode.specs.Follow.{may_follow_in, head_of, value_item, may_follow, is_whole}

-- what a payload is as the response to a command: a response, with so many bytes of value from a place on, or none, by the byte at a place
pub data Reading : Type 0 where
  response : (start length : ℕ) → Reading
  no_response : (place : ℕ) → Reading

-- the first number below n at which a test fails, and n if it fails at none
unfoldable pub first_failing : ℕ → (ℕ → Bool) → ℕ
first_failing zero ok = 0
first_failing (suc n) ok = cond (ok 0) (suc (first_failing n (λ i. ok (suc i)))) 0

-- the place of the first byte that may not follow those before it, in a value and in a payload; the length if each may
abbrev pub place_in_value : Item → List ℕ → ℕ
place_in_value x v = first_failing (length v) (λ i. may_follow_in x (take i v) (get_or v i 0))

abbrev pub place_in : (head : List ℕ) → Item → List ℕ → ℕ
place_in head x p = first_failing (length p) (λ i. may_follow head x (take i p) (get_or p i 0))

-- a payload is a response if each byte may follow those before it and it is whole; what is to be told is from `start` on
unfoldable pub read_as : (head : List ℕ) → Item → (start : ℕ) → List ℕ → Reading
read_as head x start p =
    cond (eqb (place_in head x p) (length p) && is_whole head x p) (response start (length p - start)) (no_response (place_in head x p))

-- of a read that is the value, which is after the head, of any other command the echo, which is after C0 and 00
abbrev pub start_of : Command → ℕ
start_of c = cond (is_read c) (length (head_of c)) 2

unfoldable pub read_payload : Command → List ℕ → Reading
read_payload c p = read_as (head_of c) (value_item c) (start_of c) p

-- a response has no wake bytes, so its payload is from the block's fourth byte on
abbrev pub response_wakes : ℕ
response_wakes = 0

abbrev pub payload_start : ℕ
payload_start = 3

-- the refusals of the frame, then what its payload is
abbrev pub read_framed : Command → (block : List ℕ) → Result Reading
read_framed c block = and_then (read_frame response_wakes block) (λ span. accepted (read_payload c (payload_in block span)))

-- before them those of the payload that was sent, as the host's writer gives them
unfoldable pub decode_response : (sent block : List ℕ) → Result Reading
decode_response sent block = and_then (validate_payload sent) (λ c. read_framed c block)

-- a reading of a payload, with the place of its value in the block that has the payload
abbrev pub in_block : Reading → Reading
in_block (response start length) = response (payload_start + start) length
in_block (no_response place) = no_response place

abbrev pub located : Result Reading → Result Reading
located r = and_then r (λ reading. accepted (in_block reading))

-- what an answer of the source says was read; no two answers say the same (`answered_determined`)
abbrev pub answered : std.Result Span ResponseError → Result Reading
answered (Ok span) = accepted (response span.start span.length)
answered (Err (Refused e)) = refused (number_of e)
answered (Err (NoSuchResponse place)) = accepted (no_response place)

-- the fields of each case: where the value is in the block, the number and the place of a payload that is no response, or the number of
-- another refusal
abbrev pub reading_fields : Reading → Decoded
reading_fields (response start length) = record { refusal = none; place = 0; start = payload_start + start; length = length }
reading_fields (no_response place) = record { refusal = no_such_response; place = place; start = 0; length = 0 }

abbrev pub refused_fields : ℕ → Decoded
refused_fields n = record { refusal = n; place = 0; start = 0; length = 0 }

abbrev pub decoded_fields : Result Reading → Decoded
decoded_fields (accepted r) = reading_fields r
decoded_fields (refused n) = refused_fields n

-- what an answer of the source is told as
abbrev pub decoded_from : std.Result Span ResponseError → Decoded
decoded_from (Ok span) = record { refusal = none; place = 0; start = span.start; length = span.length }
decoded_from (Err (Refused e)) = refused_fields (number_of e)
decoded_from (Err (NoSuchResponse place)) = reading_fields (no_response place)
