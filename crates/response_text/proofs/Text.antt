-- The lines that are printed: how long they are, and what a block's line is from a byte on.
-- Assumes nothing.
use Prim.Native.Nat.{ℕ, ◌+◌, ◌*◌, ◌/◌, ◌%◌, ◌<◌}
use mathlib.Core.Path.{◌≡◌, refl, ◌∙◌}
use mathlib.Core.List.{List, [], ◌∷◌}
use native.Mathlib.Omega.{arith}
use native.Mathlib.Nat.{add-zero}
use lib.ListN.{length, drop, get_or, length-drop}
use lib.Seq.{get_or-drop, drop-drop}
use Rattle.hex_text.specs.Hex.{space, line_feed}
use Rattle.response_text.specs.Text.{text_in_hex, printed, digit_of}

-- three characters a byte, the line feed included
pub text_in_hex-length : (bytes : List ℕ) → 0 < length bytes → length (printed (text_in_hex bytes)) ≡ 3 * length bytes
unfolding text_in_hex
text_in_hex-length [] h = absurd (omega arith)
text_in_hex-length (b ∷ []) h = refl
text_in_hex-length (b ∷ c ∷ bytes) h = omega (arith, text_in_hex-length (c ∷ bytes) (omega arith))

-- the line of the empty block is its line feed
pub text_in_hex-empty : (bytes : List ℕ) → length bytes ≡ 0 → printed (text_in_hex bytes) ≡ line_feed ∷ []
unfolding text_in_hex
text_in_hex-empty [] h = refl
text_in_hex-empty (b ∷ bytes) h = absurd (omega arith)

more : (bytes : List ℕ) → 1 < length bytes → printed (text_in_hex bytes) ≡ digit_of (get_or bytes 0 0 / 16) ∷ digit_of (get_or bytes 0 0 % 16) ∷ space ∷ printed (text_in_hex (drop 1 bytes))
unfolding text_in_hex
more [] h = absurd (omega arith)
more (b ∷ []) h = absurd (omega arith)
more (b ∷ c ∷ bytes) h = refl

last : (bytes : List ℕ) → length bytes ≡ 1 → printed (text_in_hex bytes) ≡ digit_of (get_or bytes 0 0 / 16) ∷ digit_of (get_or bytes 0 0 % 16) ∷ line_feed ∷ []
unfolding text_in_hex
last [] h = absurd (omega arith)
last (b ∷ []) h = refl
last (b ∷ c ∷ bytes) h = absurd (omega arith)

-- the same of what is left of a block from the byte i on
module _ (bytes : List ℕ) (i : ℕ) where
  pub more_left : i + 1 < length bytes → printed (text_in_hex (drop i bytes)) ≡ digit_of (get_or bytes i 0 / 16) ∷ digit_of (get_or bytes i 0 % 16) ∷ space ∷ printed (text_in_hex (drop (i + 1) bytes))
  more_left h = more (drop i bytes) (rw length-drop (omega arith)) ∙ simp (get_or-drop, drop-drop, add-zero)

  pub last-left : i + 1 ≡ length bytes → printed (text_in_hex (drop i bytes)) ≡ digit_of (get_or bytes i 0 / 16) ∷ digit_of (get_or bytes i 0 % 16) ∷ line_feed ∷ []
  last-left h = last (drop i bytes) (rw length-drop (omega arith)) ∙ simp (get_or-drop, add-zero)
