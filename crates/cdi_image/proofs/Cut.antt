-- A list cut into pieces of given lengths: the pieces together are the list, and pieces together are cut into themselves.
-- Assumes nothing.
use Prim.Native.Nat.{ℕ, ◌+◌, ◌≤◌}
use mathlib.Core.Path.{◌≡◌, refl, sym, ap, ◌∙◌}
use mathlib.Core.List.{List, [], ◌∷◌, ◌++◌, map, flatten}
use native.Mathlib.Omega.{arith}
use lib.ListN.{length, take, drop, length-append, length-drop, take-append-drop}
use lib.Seq.{length-take-le, take_at, drop_at, drop-drop}
use Rattle.logic.specs.Lists.{part}
use Rattle.logic.proofs.Rest.{nothing_left}

-- the pieces of a list from a place on, and where they end
abbrev pub cut : (from : ℕ) → List ℕ → List ℕ → List (List ℕ)
cut from [] l = []
cut from (n ∷ sizes) l = part from n l ∷ cut (from + n) sizes l

abbrev pub cut_end : (from : ℕ) → List ℕ → ℕ
cut_end from [] = from
cut_end from (n ∷ sizes) = cut_end (from + n) sizes

pub flatten_cut : (from : ℕ) (sizes l : List ℕ) → length l ≤ cut_end from sizes → flatten (cut from sizes l) ≡ drop from l
unfolding flatten
flatten_cut from [] l h = sym (nothing_left l from h)
flatten_cut from (n ∷ sizes) l h =
    ap (λ (t : List ℕ). part from n l ++ t) (flatten_cut (from + n) sizes l h ∙ sym (drop-drop n from l))
    ∙ take-append-drop n (drop from l)

pub cut_flatten : (from : ℕ) (pieces : List (List ℕ)) (l : List ℕ) → drop from l ≡ flatten pieces → cut from (map length pieces) l ≡ pieces
unfolding flatten
cut_flatten from [] l e = refl
cut_flatten from (p ∷ pieces) l e =
    let n = length p in
    let first : part from n l ≡ p = ap (take n) e ∙ take_at p (flatten pieces) n refl in
    let rest = cut_flatten (from + n) pieces l (sym (drop-drop n from l) ∙ ap (drop n) e ∙ drop_at p (flatten pieces) n refl) in
    λ i. first i ∷ rest i

pub flatten_length : (from : ℕ) (pieces : List (List ℕ)) → from + length (flatten pieces) ≡ cut_end from (map length pieces)
unfolding flatten
flatten_length from [] = omega arith
flatten_length from (p ∷ pieces) =
    omega (arith, length-append p (flatten pieces), flatten_length (from + length p) pieces)

pub piece_length : (from count : ℕ) (l : List ℕ) → from + count ≤ length l → length (part from count l) ≡ count
piece_length from count l h = length-take-le count (drop from l) (omega (arith, length-drop from l, h))
