-- Laws of `byte_sum`: it is a byte, a loop can add from the left, and each byte of the list decides it.
-- Assumes nothing.
use Rattle.std.proofs.Common.{◌≡◌, ℕ, zero, suc, ◌+◌, ◌%◌, ◌<◌, List, [], ◌∷◌, length, get_or, set, arith}
use Rattle.logic.proofs.Bytes.{Bytes}
use Rattle.checksum.specs.Checksum.{byte_sum}

pub sum_is_byte : (bytes : List ℕ) → byte_sum bytes < 256
unfolding byte_sum
sum_is_byte [] = omega arith
sum_is_byte (b ∷ bytes) = omega arith

-- a byte that was added so far, or is still to be added, comes to the same
pub add_one_more : (sum b : ℕ) (bytes : List ℕ) → (sum + byte_sum (b ∷ bytes)) % 256 ≡ ((sum + b) % 256 + byte_sum bytes) % 256
unfolding byte_sum
add_one_more sum b bytes = omega arith

-- two lists that differ in at most one byte, and have the same sum, are the same there
pub sum_tells : (bytes : List ℕ) (i b : ℕ) → Bytes bytes → b < 256 → i < length bytes
    → byte_sum (set bytes i b) ≡ byte_sum bytes → b ≡ get_or bytes i 0
unfolding byte_sum
sum_tells [] i b all h l e = absurd (omega arith)
sum_tells (x ∷ bytes) zero b all h l e = omega (arith, all 0)
sum_tells (x ∷ bytes) (suc i) b all h l e =
    sum_tells bytes i b (λ j. all (suc j)) h (omega arith) (omega (arith, sum_is_byte bytes, sum_is_byte (set bytes i b)))
