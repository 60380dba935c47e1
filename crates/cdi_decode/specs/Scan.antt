-- How far the functions of the reader come: what those beside its entry promise.
use Rattle.std.specs.Prelude.{ℕ, ◌<◌, ◌≤◌, ◌≡◌, Bool, cond, ◌&&◌, List, ◌∷◌, eqb, ltb, length, get_or, drop}
use Rattle.cdi_item.specs.declared.Item.{Item}
use Rattle.cdi_item.specs.declared.Value.{Value}
use Rattle.cdi_command.specs.Command.{read}
use Rattle.cdi_command.specs.Payload.{read_response, read_nv_response}
use Rattle.cdi_decode.specs.Follow.{is_ended}
use Rattle.cdi_decode.specs.Decode.{place_in_value}

-- the first n bytes are those that are expected, and the next one, if there is one and one is expected, is not
pub record SameUpTo (expected found : List ℕ) (n : ℕ) : Type 0 where
  pub within-expected : n ≤ length expected
  pub within-found : n ≤ length found
  pub same : (i : ℕ) → i < n → get_or found i 0 ≡ get_or expected i 0
  pub differs : n < length expected → n < length found → get_or found n 0 ≡ get_or expected n 0 → ⊥

-- the head of the response to a read: its kind, and the rest of the payload that was sent
abbrev pub read_kind : ℕ → ℕ
read_kind code = cond (eqb code read) read_response read_nv_response

abbrev pub read_head : List ℕ → List ℕ
read_head s = read_kind (get_or s 0 0) ∷ drop 1 s

-- a byte of a value, or another one where the value does not go on so far
abbrev pub byte_or : List ℕ → ℕ → ℕ → ℕ
byte_or v i other = cond (ltb i (length v)) (get_or v i 0) other

-- how many bytes of a value are within the item's length
abbrev pub end_of : Item → List ℕ → ℕ
end_of x v = cond (ltb (length v) x.length) (length v) x.length

-- the first five bytes of a value, and the first alone
abbrev pub row_of : List ℕ → Value
row_of v = record { byte0 = get_or v 0 0; byte1 = get_or v 1 0; byte2 = get_or v 2 0; byte3 = get_or v 3 0; byte4 = get_or v 4 0 }

abbrev pub first_of : List ℕ → Value
first_of v = record { byte0 = get_or v 0 0; byte1 = 0; byte2 = 0; byte3 = 0; byte4 = 0 }

-- each byte of a value may follow those before it, and they end it
abbrev pub is_whole_value : Item → List ℕ → Bool
is_whole_value x v = eqb (place_in_value x v) (length v) && is_ended x v
