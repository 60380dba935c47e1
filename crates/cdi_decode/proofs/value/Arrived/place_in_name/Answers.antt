-- The place is behind the first 00, at the seventeenth byte if none of sixteen is 00, or at the end. What is found among the first seventeen bytes is
-- found in the value.
use Rattle.std.proofs.Common.{◌≡◌, ℕ, ◌<◌, length, take, rules, sym, ◌∙◌, arith}
use lib.ListN.{get_or}
use lib.Seq.{get_or-take, length-take-le}
use Rattle.cdi_decode.proofs.Names.{first_zero, no_first}
use Rattle.cdi_decode.proofs.Shapes.{name-length}
use Rattle.cdi_decode.proofs.value.Arrived.place_in_name.Goals as goal

pub returns-in-Some : goal.returns-in-Some
returns-in-Some c =
    let x = c.args.self.now.item in
    let v = c.args.self.now.bytes.now in
    let n = c.min.result in
    let z = c.in-Some.zero in
    let size : length (take n v) ≡ n = length-take-le n v (omega (arith, c.min.ensures)) in
    let within : z < length (take n v) = search rules in
    let few : z < n = omega (arith, within, size) in
    let at : get_or (take n v) z 0 ≡ 0 = search rules in
    let none : (k : ℕ) → k < z → get_or (take n v) k 0 ≡ 0 → ⊥ = λ k l. search rules in
    sym (first_zero x c.requires (name-length x c.args.self.now.served c.requires) v z (omega (arith, few, c.min.ensures)) (omega (arith, few, c.min.ensures))
    (sym (get_or-take n v z 0 few) ∙ at) (λ k l e. none k l (get_or-take n v k 0 (omega (arith, few, l)) ∙ e)))

pub returns-in-None : goal.returns-in-None
returns-in-None c =
    let x = c.args.self.now.item in
    let v = c.args.self.now.bytes.now in
    let n = c.min.result in
    let size : length (take n v) ≡ n = length-take-le n v (omega (arith, c.min.ensures)) in
    let none : (k : ℕ) → k < length (take n v) → get_or (take n v) k 0 ≡ 0 → ⊥ = λ k l. search rules in
    c.min-in-None.ensures ∙ sym (no_first x c.requires (name-length x c.args.self.now.served c.requires) v
    (λ k l m e.
    let few : k < n = omega (arith, l, m, c.min.ensures) in
    none k (omega (arith, few, size)) (get_or-take n v k 0 few ∙ e)))
