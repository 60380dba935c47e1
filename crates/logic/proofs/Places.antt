-- A part of a list that is long enough is its bytes, each read at its own place.
-- Assumes nothing.
use Prim.Native.Nat.{ℕ, zero, suc, ◌+◌, ◌≤◌}
use mathlib.Core.Path.{◌≡◌, refl, sym, ap, ◌∙◌}
use mathlib.Core.List.{List, [], ◌∷◌}
use native.Mathlib.Omega.{arith}
use lib.ListN.{length, get_or, take, drop, length-drop}
use lib.Seq.{take_all, drop-cons}

-- n bytes from place i on
abbrev pub bytes_from : (i n : ℕ) → List ℕ → List ℕ
bytes_from i zero l = []
bytes_from i (suc n) l = get_or l i 0 ∷ bytes_from (suc i) n l

pub part_is_bytes : (i n : ℕ) (l : List ℕ) → i + n ≤ length l → take n (drop i l) ≡ bytes_from i n l
part_is_bytes i zero l h = refl
part_is_bytes i (suc n) l h =
    rw (drop-cons l i 0 (omega arith)) (ap (λ (rest : List ℕ). get_or l i 0 ∷ rest) (part_is_bytes (suc i) n l (omega arith)))

-- all that stand from place i on
pub rest_is_bytes : (i n : ℕ) (l : List ℕ) → length l ≡ i + n → bytes_from i n l ≡ drop i l
rest_is_bytes i n l e = sym (part_is_bytes i n l (omega arith)) ∙ take_all n (drop i l) (omega (arith, length-drop i l))

-- all bytes of a list
pub all_is_bytes : (n : ℕ) (l : List ℕ) → length l ≡ n → bytes_from 0 n l ≡ l
all_is_bytes n l e = rest_is_bytes 0 n l (omega arith)
