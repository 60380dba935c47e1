-- The first number at which a test fails: how it is told from what holds below it and at it.
-- Assumes nothing.
use Prim.Native.Nat.{ℕ, zero, suc, ◌+◌, ◌-◌, ◌<◌, ◌≤◌}
use mathlib.Core.Path.{◌≡◌, refl, sym, ap, ◌∙◌}
use mathlib.Core.Bool.{Bool, true, false}
use native.Mathlib.Omega.{arith}
use borrow.Author.Tests.{ltb-true, ltb-false}
use lib.Dec.{ltb}
use Rattle.logic.proofs.Choice.{by_cases}
use Rattle.cdi_decode.specs.Decode.{first_failing}

-- it is the number below which the test passes and at which, unless it is the end, it does not
pub first_is : (n p : ℕ) (ok : ℕ → Bool) → p ≤ n → ((i : ℕ) → i < p → ok i ≡ true) → (p < n → ok p ≡ false) → first_failing n ok ≡ p
unfolding first_failing
first_is zero zero ok h below at = refl
first_is zero (suc p) ok h below at = absurd (omega arith)
first_is (suc n) zero ok h below at = rw (at (omega arith)) refl
first_is (suc n) (suc p) ok h below at =
    rw (below 0 (omega arith))
    (ap suc (first_is n p (λ i. ok (suc i)) (omega arith) (λ i k. below (suc i) (omega arith)) (λ k. at (omega arith))))

-- what it is told by
pub first-most : (n : ℕ) (ok : ℕ → Bool) → first_failing n ok ≤ n
unfolding first_failing
first-most zero ok = omega arith
first-most (suc n) ok = by_cases (ok 0) (λ t. rw t (omega (arith, first-most n (λ i. ok (suc i))))) (λ f. rw f (omega arith))

pub first_below : (n : ℕ) (ok : ℕ → Bool) (i : ℕ) → i < first_failing n ok → ok i ≡ true
unfolding first_failing
first_below zero ok i h = absurd (omega arith)
first_below (suc n) ok zero h = by_cases (ok 0) (λ t. t) (λ f. absurd (omega (arith, rw f at h)))
first_below (suc n) ok (suc i) h =
    by_cases (ok 0) (λ t. first_below n (λ i. ok (suc i)) i (omega (arith, rw t at h))) (λ f. absurd (omega (arith, rw f at h)))

pub first-at : (n : ℕ) (ok : ℕ → Bool) → first_failing n ok < n → ok (first_failing n ok) ≡ false
unfolding first_failing
first-at zero ok h = absurd (omega arith)
first-at (suc n) ok h = by_cases (ok 0) (λ t. rw t (first-at n (λ i. ok (suc i)) (omega (arith, rw t at h)))) (λ f. rw f f)

-- two tests that agree below n fail at the same number
pub first-same : (n : ℕ) (ok other : ℕ → Bool) → ((i : ℕ) → i < n → ok i ≡ other i) → first_failing n ok ≡ first_failing n other
first-same n ok other agree =
    first_is n (first_failing n other) ok (first-most n other)
    (λ i h. agree i (omega (arith, first-most n other)) ∙ first_below n other i h)
    (λ h. agree (first_failing n other) h ∙ first-at n other h)

-- where the test passes below m, it is looked for from m on
pub first-from : (m n : ℕ) (ok : ℕ → Bool) → ((i : ℕ) → i < m → ok i ≡ true) → first_failing (m + n) ok ≡ m + first_failing n (λ i. ok (m + i))
first-from m n ok below =
    let rest : ℕ → Bool = λ i. ok (m + i) in
    first_is (m + n) (m + first_failing n rest) ok (omega (arith, first-most n rest)) all (λ h. first-at n rest (omega arith))
  where
    all : (i : ℕ) → i < m + first_failing n (λ i. ok (m + i)) → ok i ≡ true
    all i h =
        by_cases (ltb i m) (λ t. below i (ltb-true i m t))
        (λ f.
        let past = ltb-false i m f in
        let e : m + (i - m) ≡ i = omega arith in
        ap ok (sym e) ∙ first_below n (λ i. ok (m + i)) (i - m) (omega arith))
