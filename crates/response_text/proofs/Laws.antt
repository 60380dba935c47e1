-- A block that is written is read back.
-- Assumes nothing.
use Prim.Native.Nat.{ℕ, suc, ◌/◌, ◌%◌, ◌<◌, ◌≤◌}
use mathlib.Core.Path.{◌≡◌, refl, ◌∙◌}
use mathlib.Core.Bool.{true}
use mathlib.Core.List.{List, [], ◌∷◌}
use native.Mathlib.Omega.{arith}
use lib.ListN.{length, length-append}
use Rattle.logic.proofs.Bytes.{Bytes}
use Rattle.hex_text.specs.Hex.{block, is_pair, pair_value, pairs, hex_line, line_feed}
use Rattle.hex_text.proofs.Lines.{blank, not_blank}
use Rattle.response_text.specs.Text.{digit_of, text_in_hex}
use Rattle.response_text.proofs.Digits.{digit_back}
use Rattle.response_text.proofs.Text.{text_in_hex-length}

pair-back : (b : ℕ) → b < 256 → (is_pair (digit_of (b / 16)) (digit_of (b % 16)) ≡ true) × (pair_value (digit_of (b / 16)) (digit_of (b % 16)) ≡ b)
pair-back b h =
    let high = digit_back (b / 16) (omega arith) in
    let low = digit_back (b % 16) (omega arith) in
    simp (high.0, low.0, high.1, low.1) (refl, omega arith)

pairs-back : (b : ℕ) (bs : List ℕ) → Bytes (b ∷ bs) → pairs (text_in_hex (b ∷ bs)) ≡ block (b ∷ bs)
unfolding pairs text_in_hex
pairs-back b [] small = let p = pair-back b (small 0) in simp (p.0, p.1)
pairs-back b (c ∷ bs) small = let p = pair-back b (small 0) in simp (p.0, p.1, pairs-back c bs (λ i. small (suc i)))

-- what is written is read back
pub read_back : (bs : List ℕ) → Bytes bs → length bs ≤ 200 → hex_line (text_in_hex bs) ≡ block bs
unfolding text_in_hex
read_back [] small few = blank [] (omega arith) refl
read_back (b ∷ bs) small few =
    let long = text_in_hex-length (b ∷ bs) (omega arith) in
    let joined = length-append (text_in_hex (b ∷ bs)) (line_feed ∷ []) in
    not_blank (text_in_hex (b ∷ bs)) (omega arith) (λ none. omega arith) ∙ pairs-back b bs small
