-- The stores that write a frame, put together.
-- Assumes nothing.
use Prim.Native.Nat.{ℕ, ◌+◌, ◌-◌, ◌≤◌}
use mathlib.Core.Path.{◌≡◌, sym, ap, ◌∙◌}
use mathlib.Core.List.{List, [], ◌∷◌, ◌++◌, append_assoc}
use native.Mathlib.Omega.{arith}
use lib.ListN.{length, take, drop, set, replicate, length-append, length-drop, length-replicate}
use lib.Seq.{sets, sets-eq, drop-drop, length-take-le}
use Rattle.logic.specs.Written.{written}
use Rattle.logic.proofs.Written.{sets-one, sets-append, stores}
use Rattle.cdi_frame.specs.Layout.{start, wake, sync, length_base, command_prefix, command_frame}

-- a part that is filled with wake bytes is as many stores
pub wakes-stored : (s part : List ℕ) (k : ℕ) → k + 1 ≤ length s → part ≡ replicate (length (take (k + 1 - 1) (drop 1 s))) wake
    → take 1 s ++ (part ++ drop (k + 1 - 1) (drop 1 s)) ≡ sets s 1 (replicate k wake)
wakes-stored s part k h e =
    let n : k + 1 - 1 ≡ k = omega arith in
    let size : length (take k (drop 1 s)) ≡ k = length-take-le k (drop 1 s) (omega (arith, length-drop 1 s)) in
    let filled : part ≡ replicate k wake = e ∙ rw (n, size) in
    let eq = sets-eq (replicate k wake) s 1 (omega (arith, length-replicate k wake)) in
    rw (n, filled, drop-drop k 1 s) (sym (rw (length-replicate k wake, append_assoc) at eq))

module _ (s : List ℕ) (k n : ℕ) where
  -- the first byte, the wake bytes and the two bytes behind them
  pub prefix_stored : set (set (sets (set s 0 start) 1 (replicate k wake)) (k + 1) sync) (k + 2) (length_base + n) ≡ sets s 0 (command_prefix k n)
  prefix_stored =
      let t = sets (set s 0 start) 1 (replicate k wake) in
      let e : 1 + length (replicate k wake) ≡ k + 1 = omega (arith, length-replicate k wake) in
      sym
      (sets-append (set s 0 start) 1 (replicate k wake) (sync ∷ (length_base + n) ∷ []) ∙
      ap (λ (i : ℕ). sets t i (sync ∷ (length_base + n) ∷ [])) e ∙
      sets-one t (k + 1) sync (k + 2) ((length_base + n) ∷ []) (omega arith))

  pub prefix_length : length (command_prefix k n) ≡ k + 3
  prefix_length = simp (length-append, length-replicate) (omega arith)

-- the payload behind its prefix
pub frame-stored : (s p : List ℕ) (k : ℕ) → k + 3 + length p ≤ length s
    → sets (sets s 0 (command_prefix k (length p))) (k + 3) p ≡ written s (command_frame k p)
frame-stored s p k h =
    let long : length (command_frame k p) ≤ length s = omega (arith, length-append (command_prefix k (length p)) p, prefix_length s k (length p)) in
    let place : k + 3 ≡ 0 + length (command_prefix k (length p)) = omega (arith, prefix_length s k (length p)) in
    ap (λ (i : ℕ). sets (sets s 0 (command_prefix k (length p))) i p) place ∙
    sym (sets-append s 0 (command_prefix k (length p)) p) ∙
    stores s (command_frame k p) long
