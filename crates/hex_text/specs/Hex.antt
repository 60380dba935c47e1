-- Document 01, "Examples": a line of upper-case hex pairs parted by one space, as it is read.
use Rattle.std.specs.Prelude.{ℕ, suc, ◌+◌, ◌-◌, ◌*◌, Bool, cond, ◌&&◌, ◌||◌, List, [], ◌∷◌, Result, Ok, Err, ltb, leb, eqb, length, drop}
use Rattle.logic.specs.Lists.{part}
use Rattle.logic.specs.Written.{written_in}
use Rattle.hex_text.specs.declared.LineError.{LineError}
use Rattle.hex_text.specs.declared.LineError.TheVariants.{NotHex, NoRoom}

abbrev pub space : ℕ
space = 32

abbrev pub line_feed : ℕ
line_feed = 10

-- a line over 600 characters is not hex
abbrev pub line_max : ℕ
line_max = 600

-- `0` to `9`, `A` to `F`
abbrev pub is_digit : ℕ → Bool
is_digit c = (leb 48 c && leb c 57) || (leb 65 c && leb c 70)

-- the value of a digit: 0 to 9, 10 to 15
abbrev pub digit_value : ℕ → ℕ
digit_value c = cond (leb c 57) (c - 48) (c - 55)

abbrev pub is_pair : ℕ → ℕ → Bool
is_pair high low = is_digit high && is_digit low

abbrev pub pair_value : ℕ → ℕ → ℕ
pair_value high low = digit_value high * 16 + digit_value low

-- what a line is: a block's bytes, or a line of any other form
pub data Line : Type 0 where
  block : List ℕ → Line
  not_hex : Line

abbrev pub prepend : ℕ → Line → Line
prepend b (block bs) = block (b ∷ bs)
prepend b not_hex = not_hex

-- one pair or more, parted by one space
unfoldable pub pairs : List ℕ → Line
pairs [] = not_hex
pairs (high ∷ []) = not_hex
pairs (high ∷ low ∷ []) = cond (is_pair high low) (block (pair_value high low ∷ [])) not_hex
pairs (high ∷ low ∷ c ∷ rest) = cond (is_pair high low && eqb c space) (prepend (pair_value high low) (pairs rest)) not_hex

-- the place of the first c of a list, or the list's length where there is none
unfoldable pub index_of : ℕ → List ℕ → ℕ
index_of c [] = 0
index_of c (x ∷ rest) = cond (eqb x c) 0 (suc (index_of c rest))

-- the line that starts at a place of a text, without its line feed; its end is the place of the line feed, or of the text's end
-- where there is none, and a line that would start past the text's end is empty and ends there
abbrev pub line_from : ℕ → List ℕ → List ℕ
line_from from text = part from (index_of line_feed (drop from text)) text

abbrev pub line_end : ℕ → List ℕ → ℕ
line_end from text = cond (leb from (length text)) (from + index_of line_feed (drop from text)) (length text)

-- no character at all stands for the empty block; the line feed is not one of the line's characters
unfoldable pub hex_line : List ℕ → Line
hex_line line = cond (ltb line_max (length line)) not_hex (cond (eqb (length line) 0) (block []) (pairs line))

-- each case of the answer to a line, with `room` bytes to put its block: the block's length where it fits
abbrev pub hex_line_for : Line → ℕ → Result ℕ LineError
hex_line_for not_hex room = Err NotHex
hex_line_for (block bs) room = cond (leb (length bs) room) (Ok (length bs)) (Err NoRoom)

-- the buffer afterwards: the block over its front where it fits, else as it was
abbrev pub line_written : Line → List ℕ → List ℕ
line_written not_hex buffer = buffer
line_written (block bs) buffer = written_in buffer bs
