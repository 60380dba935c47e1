-- Document 004 and document 02, Ask 11: what a message is as bytes, and what it may hold. That the reader takes every such packet as what it
-- holds, and no other block, is proved.
use Rattle.std.specs.Prelude.{ℕ, ◌+◌, ◌*◌, Bool, not, ◌&&◌, ◌||◌, List, [], ◌∷◌, ◌++◌, eqb, ltb, length, get_or}
use Rattle.logic.specs.Lists.{any}
use Rattle.checksum.specs.Checksum.{summed}

-- the first and the last byte of a packet
abbrev pub start : ℕ
start = 0x01

abbrev pub end : ℕ
end = 0x04

-- the messages that are served, by 004's names for them, ...
abbrev pub set_pan_id : ℕ
set_pan_id = 0x01

abbrev pub query_pan_id : ℕ
query_pan_id = 0x02

abbrev pub set_address : ℕ
set_address = 0x03

abbrev pub query_address : ℕ
query_address = 0x04

abbrev pub set_channel : ℕ
set_channel = 0x05

abbrev pub query_channel : ℕ
query_channel = 0x06

abbrev pub reset : ℕ
reset = 0x18

-- ... and their answers
abbrev pub set_pan_id_acknowledged : ℕ
set_pan_id_acknowledged = 0x81

abbrev pub respond_pan_id : ℕ
respond_pan_id = 0x82

abbrev pub set_address_acknowledged : ℕ
set_address_acknowledged = 0x83

abbrev pub respond_address : ℕ
respond_address = 0x84

abbrev pub set_channel_acknowledged : ℕ
set_channel_acknowledged = 0x85

abbrev pub respond_channel : ℕ
respond_channel = 0x86

abbrev pub reset_acknowledged : ℕ
reset_acknowledged = 0x98

-- the type of the answer to a message
abbrev pub answer_to : (type : ℕ) → ℕ
answer_to type = 0x80 + type

-- 004, "Sent From Host To Transceiver": each type that is served, and how many bytes of data it has, ...
abbrev pub requests : List (ℕ × ℕ)
requests =
    (set_pan_id, 2) ∷
    (query_pan_id, 0) ∷
    (set_address, 10) ∷
    (query_address, 0) ∷
    (set_channel, 1) ∷
    (query_channel, 0) ∷
    (reset, 0) ∷
    []

-- ... and "Sent From Transceiver To Host"
abbrev pub answers : List (ℕ × ℕ)
answers =
    (set_pan_id_acknowledged, 0) ∷
    (respond_pan_id, 2) ∷
    (set_address_acknowledged, 0) ∷
    (respond_address, 10) ∷
    (set_channel_acknowledged, 0) ∷
    (respond_channel, 1) ∷
    (reset_acknowledged, 0) ∷
    []

-- the one list of types: every length of data is from here
abbrev pub types : List (ℕ × ℕ)
types = requests ++ answers

-- 27: a line of a list has the type and so many bytes of data
abbrev pub is_line : (type size : ℕ) → ℕ × ℕ → Bool
is_line type size line = eqb type line.0 && eqb size line.1

unfoldable pub fits_in : List (ℕ × ℕ) → (type size : ℕ) → Bool
fits_in list type size = any (is_line type size) list

-- the bytes of a packet that are not data: the first, the length, the type, the sum and the last
abbrev pub overhead : ℕ
overhead = 5

-- where the data begin
abbrev pub start_of_data : ℕ
start_of_data = 3

-- "01, total length, type, data": the length counts every byte of the packet
abbrev pub front : (type : ℕ) (bytes : List ℕ) → List ℕ
front type bytes = start ∷ (overhead + length bytes) ∷ type ∷ bytes

-- "sum from the start byte through the data": it begins at the first byte
abbrev pub sum_start : ℕ
sum_start = 0

-- then "sum, 04"
unfoldable pub packet_bytes : (type : ℕ) (bytes : List ℕ) → List ℕ
packet_bytes type bytes = summed sum_start end (front type bytes)

-- "PAN ID (14 bits)"
abbrev pub pan_id_limit : ℕ
pan_id_limit = 16384

-- 004's "LSB to MSB": the low byte is first
abbrev pub is_pan_id : (low high : ℕ) → Bool
is_pan_id low high = ltb (low + 256 * high) pan_id_limit

abbrev pub pan_id_fits : List ℕ → Bool
pan_id_fits bytes = is_pan_id (get_or bytes 0 0) (get_or bytes 1 0)

-- the types whose data are a PAN ID
abbrev pub has_pan_id : (type : ℕ) → Bool
has_pan_id type = eqb type set_pan_id || eqb type respond_pan_id

-- 28: "a PAN ID with a top bit set" in a message
abbrev pub pan_id_holds : (type : ℕ) (bytes : List ℕ) → Bool
pan_id_holds type bytes = not (has_pan_id type) || pan_id_fits bytes

-- what may be written, and is read: 27 and 28 do not apply; all other data are any bytes (the channel: house)
unfoldable pub is_accepted : (type : ℕ) (bytes : List ℕ) → Bool
is_accepted type bytes = fits_in types type (length bytes) && pan_id_holds type bytes
