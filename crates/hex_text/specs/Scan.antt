-- How a line is read: its pairs as far as they go, and whether the last one ends it. The laws tie this to `hex_line`.
use Rattle.std.specs.Prelude.{ℕ, ◌+◌, Bool, true, false, cond, ◌&&◌, List, [], ◌∷◌, eqb, take}
use Rattle.hex_text.specs.Hex.{space, line_feed, is_pair, Line, block, not_hex, index_of}

-- whether a line is a block
abbrev pub is_block : Line → Bool
is_block (block bs) = true
is_block not_hex = false

-- how many characters at the front are pairs with a space after each
unfoldable pub spaced : List ℕ → ℕ
spaced [] = 0
spaced (high ∷ []) = 0
spaced (high ∷ low ∷ []) = 0
spaced (high ∷ low ∷ c ∷ rest) = cond (is_pair high low && eqb c space) (spaced rest + 3) 0

-- a line ends at its line feed, and at the text's end where it has none
abbrev pub is_line_end : List ℕ → Bool
is_line_end [] = true
is_line_end (c ∷ rest) = eqb c line_feed

-- whether the last pair of a line stands at the front
unfoldable pub last_pair : List ℕ → Bool
last_pair [] = false
last_pair (high ∷ []) = false
last_pair (high ∷ low ∷ rest) = is_pair high low && is_line_end rest

-- the first line of a text, without its line feed
abbrev pub first_line : List ℕ → List ℕ
first_line text = take (index_of line_feed text) text
