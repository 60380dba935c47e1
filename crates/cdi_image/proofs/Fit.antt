-- What Load asks of an image: it accepts one exactly where it is the head and then valid contents of the right size.
-- Assumes nothing.
use Prim.Native.Nat.{ℕ}
use mathlib.Core.Path.{◌≡◌, refl, sym, ap, ◌∙◌}
use mathlib.Core.List.{List, [], ◌∷◌, ◌++◌}
use mathlib.Core.Bool.{Bool, true, false, not, ◌&&◌, and-eq-true_iff}
use native.Mathlib.Omega.{arith}
use borrow.Author.Tests.{eqb-true}
use lib.Dec.{eqb}
use lib.Pointwise.{pointwise}
use lib.ListN.{length, drop, length-drop, take-append-drop}
use lib.Seq.{drop-drop}
use Rattle.logic.specs.Lists.{same_bytes, part}
use Rattle.refusal.specs.Refusal.{accepted}
use Rattle.refusal.proofs.Results.{then-refused}
use Rattle.cdi_state.specs.declared.ModuleState.{ModuleState}
use Rattle.cdi_valid.specs.Valid.{valid_stored}
use Rattle.cdi_store.specs.Store.{state_at_power_up}
use Rattle.cdi_image.specs.Image.{mark, version1, head_size, contents_size, image_v1_size, stored_in, with_stored, loaded}

-- contents that Load takes
pub record Fit (contents : List ℕ) : Type 0 where
  pub size : length contents ≡ contents_size
  pub valid : valid_stored (stored_in contents) ≡ true

pub fit_loads : (s : ModuleState) (contents : List ℕ) → Fit contents
    → loaded s (mark ++ version1 ++ contents) ≡ accepted (state_at_power_up (with_stored s (stored_in contents)))
unfolding loaded
fit_loads s contents f = rw (f.size, f.valid)

-- what `==` answers of two slices of bytes
pub pointwise_is_same : (l m : List ℕ) → pointwise eqb l m ≡ same_bytes l m
pointwise_is_same [] [] = refl
pointwise_is_same [] (c ∷ m) = refl
pointwise_is_same (b ∷ l) [] = refl
pointwise_is_same (b ∷ l) (c ∷ m) = ap (λ (t : Bool). eqb b c && t) (pointwise_is_same l m)

same_bytes_lem : (l m : List ℕ) → same_bytes l m ≡ true → l ≡ m
same_bytes_lem [] [] e = refl
same_bytes_lem [] (c ∷ m) e = cc
same_bytes_lem (b ∷ l) [] e = cc
same_bytes_lem (b ∷ l) (c ∷ m) e =
    let both = (and-eq-true_iff (eqb b c) (same_bytes l m)).0 e in
    let first = eqb-true b c both.0 in
    let rest = same_bytes_lem l m both.1 in
    λ i. first i ∷ rest i

-- a test that did not refuse
pub passed : (t : Bool) → not t ≡ false → t ≡ true
passed true e = refl
passed false e = cc

-- an image is its mark, its version and what stands behind them
head_and_rest : (image : List ℕ) → part 0 3 image ++ (part 3 2 image ++ drop 5 image) ≡ image
head_and_rest image =
    let before : List ℕ → List ℕ = λ l. part 0 3 image ++ l in
    ap (λ (l : List ℕ). before (part 3 2 image ++ l)) (sym (drop-drop 2 3 image)) ∙ ap before (take-append-drop 2 (drop 3 image)) ∙ take-append-drop 3 image

pub loads_fit : (s : ModuleState) (image : List ℕ) (t : ModuleState) → loaded s image ≡ accepted t →
    let contents = drop head_size image in
    Fit contents × (mark ++ version1 ++ contents ≡ image) × (state_at_power_up (with_stored s (stored_in contents)) ≡ t)
unfolding loaded
loads_fit s image t e =
    let contents = drop head_size image in
    let sized = then-refused (not (eqb (length image) image_v1_size)) _ _ t e in
    let marked = then-refused (not (same_bytes (part 0 3 image) mark)) _ _ t sized.1 in
    let versioned = then-refused (not (same_bytes (part 3 2 image) version1)) _ _ t marked.1 in
    let valid = then-refused (not (valid_stored (stored_in contents))) _ _ t versioned.1 in
    let size = eqb-true (length image) image_v1_size (passed _ sized.0) in
    let m = same_bytes_lem (part 0 3 image) mark (passed _ marked.0) in
    let v = same_bytes_lem (part 3 2 image) version1 (passed _ versioned.0) in
    let fit : Fit contents = record { size = omega (arith, length-drop head_size image, size); valid = passed _ valid.0 } in
    let whole : mark ++ version1 ++ contents ≡ image = (λ i. sym m i ++ (sym v i ++ contents)) ∙ head_and_rest image in
    (fit, whole, cc)
