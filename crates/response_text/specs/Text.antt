-- Document 01, "Examples": the lines that are printed.
use Rattle.std.specs.Prelude.{ℕ, ◌+◌, ◌/◌, ◌%◌, cond, List, [], ◌∷◌, ◌++◌, Option, Some, None, map, ltb, leb, length}
use Rattle.logic.specs.Lists.{below}
use Rattle.hex_text.specs.Hex.{space, line_feed}

-- the digit of a number below 16
abbrev pub digit_of : ℕ → ℕ
digit_of n = cond (ltb n 10) (n + 48) (n + 55)

-- the digits of 0 to 15
abbrev pub all_digits : List ℕ
all_digits = map digit_of (below 16 [])

-- a block as upper-case hex pairs parted by one space
unfoldable pub text_in_hex : List ℕ → List ℕ
text_in_hex [] = []
text_in_hex (b ∷ []) = digit_of (b / 16) ∷ digit_of (b % 16) ∷ []
text_in_hex (b ∷ c ∷ bs) = digit_of (b / 16) ∷ digit_of (b % 16) ∷ space ∷ text_in_hex (c ∷ bs)

-- a number below 1,000 in decimal, with no leading zero
abbrev pub decimal_text : ℕ → List ℕ
decimal_text n =
    cond (ltb n 10) ((48 + n) ∷ [])
    (cond (ltb n 100) ((48 + n / 10) ∷ (48 + n % 10) ∷ []) ((48 + n / 100) ∷ (48 + n / 10 % 10) ∷ (48 + n % 10) ∷ []))

-- `refused`, a space and the number
abbrev pub refused_text : ℕ → List ℕ
refused_text n = 114 ∷ 101 ∷ 102 ∷ 117 ∷ 115 ∷ 101 ∷ 100 ∷ space ∷ decimal_text n

-- `not hex`
abbrev pub not_hex_text : List ℕ
not_hex_text = 110 ∷ 111 ∷ 116 ∷ space ∷ 104 ∷ 101 ∷ 120 ∷ []

-- a line feed ends each line
abbrev pub printed : List ℕ → List ℕ
printed text = text ++ line_feed ∷ []

-- what is answered to a line that is to go over the front of a buffer: how many bytes are written, or none where it does not fit
abbrev pub count_in : List ℕ → List ℕ → Option ℕ
count_in buffer line = cond (leb (length line) (length buffer)) (Some (length line)) None
