-- Document 02, Asks 10 and 11: what guards a packet, its first and its last byte, and the sum of its bytes, over where it begins.
use Rattle.std.specs.Prelude.{ℕ, ◌+◌, ◌-◌, ◌%◌, Bool, ◌&&◌, List, [], ◌∷◌, ◌++◌, length, take, drop, ◌==◌, nat_le, slice_index}

-- the sum of bytes, "carry out of eight bits dropped"
unfoldable pub byte_sum : List ℕ → ℕ
byte_sum [] = 0
byte_sum (b ∷ bytes) = (b + byte_sum bytes) % 256

-- the sum of those from place `start` on
abbrev pub sum_from : ℕ → List ℕ → ℕ
sum_from start bytes = byte_sum (drop start bytes)

-- what a writer puts after the bytes of a packet: their sum from place `start` on, and the last byte
abbrev pub summed : (start last : ℕ) → List ℕ → List ℕ
summed start last bytes = bytes ++ sum_from start bytes ∷ last ∷ []

-- the last byte but one is the sum of those before it from place `start` on
abbrev pub sum_holds : ℕ → List ℕ → Bool
sum_holds start packet = nat_le 2 (length packet) && sum_from start (take (length packet - 2) packet) == slice_index packet (length packet - 2)

-- 24: "first or last byte, or an empty block"
abbrev pub ends_hold : (first last : ℕ) → List ℕ → Bool
ends_hold first last block = nat_le 1 (length block) && (slice_index block 0 == first && slice_index block (length block - 1) == last)
