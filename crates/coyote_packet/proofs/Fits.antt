-- What an accepted number of targets, or of bytes of data, says of lengths.
-- Assumes nothing.
use Prim.Native.Nat.{ℕ, ◌*◌, ◌≤◌}
use mathlib.Core.Path.{◌≡◌}
use mathlib.Core.Bool.{true, and-eq-true_iff}
use mathlib.Core.List.{List}
use native.Mathlib.Omega.{arith}
use borrow.Author.Tests.{eqb-true, leb-true}
use lib.Dec.{eqb, ltb, leb}
use lib.ListN.{length}
use Rattle.logic.proofs.Choice.{choice}
use Rattle.coyote_packet.specs.Layout.{ack_type, targets_before, targets_max, fit_targets, data_max, data_most, fit_data}
use Rattle.coyote_packet.proofs.Targets.{most}

pub targets-counted : (targets : List ℕ) → fit_targets targets ≡ true → (1 ≤ targets_before targets_max targets) × (2 * targets_before targets_max targets ≡ length targets)
targets-counted targets e =
    let n = targets_before targets_max targets in
    let p = (and-eq-true_iff (leb 1 n) (eqb (2 * n) (length targets))).0 e in
    (leb-true 1 n p.0, eqb-true (2 * n) (length targets) p.1)

pub targets-length : (targets : List ℕ) → fit_targets targets ≡ true → length targets ≤ 2 * targets_max
targets-length targets e = omega (arith, targets-counted targets e, most targets_max targets)

pub data_size : (type size : ℕ) → fit_data type size ≡ true → (1 ≤ size) × (size ≤ data_max)
data_size type size e =
    let p = (and-eq-true_iff (leb 1 size) (leb size (data_most type))).0 e in
    let most : data_most type ≤ data_max = choice (λ n. n ≤ data_max) (ltb type ack_type) (λ _. omega arith) (λ _. omega arith) in
    omega (arith, leb-true 1 size p.0, leb-true size (data_most type) p.1)
