-- What a step stores in a cell is a value that the cell accepts.
-- Assumes nothing.
use Prim.Native.Nat.{ℕ}
use mathlib.Core.Path.{◌≡◌, refl}
use mathlib.Core.Bool.{true, cond, ◌&&◌, ◌||◌, and-eq-true_iff}
use mathlib.Core.List.{List}
use Rattle.logic.proofs.Choice.{choice, either}
use Rattle.cdi_model.specs.Cells.{Copy, nv, working, line_mask_code, latch_mask_code, tx_power_code, control_source_code, message_select_code, interrupt_mask_code, Key, setting, input, slot, address, rssi, events, flags, Cell, copy_of, single, has_working, is_key, is_cell, same, same_copy, same_single}
use Rattle.cdi_model.specs.Values.{accepted, default_value, empty_slot}
use Rattle.cdi_model.specs.Action.{Action, read, read_nv, read_status, write, program, set_default, erase_all}
use Rattle.cdi_model.specs.Table.{Decision, refuse, execute, execute_power_up, in_copy, is_slot, action_stores, power_up_stores, stores}
use Rattle.cdi_model.specs.Model.{Cells, action_gives, power_up_gives, gives}
use Rattle.cdi_model.proofs.Cells.{same_eq, single_eq}
use Rattle.cdi_model.proofs.Checked.{Checked, CheckedDecision}
use Rattle.cdi_model.proofs.Validity.{takes, AllTake}

-- a cell accepts what it accepts under another name
at_same : (c d : Cell) (v : List ℕ) → takes d v ≡ true → same c d ≡ true → takes c v ≡ true
at_same c d v h e = rw (same_eq c d e) h

-- each default is an accepted value
default_taken : (k : Key) → has_working k ≡ true → accepted k (default_value k) ≡ true
default_taken (setting line_mask_code) e = refl
default_taken (setting latch_mask_code) e = refl
default_taken (setting tx_power_code) e = refl
default_taken (setting control_source_code) e = refl
default_taken (setting message_select_code) e = refl
default_taken (setting interrupt_mask_code) e = refl
default_taken (input n) e = refl
default_taken (slot i) e = cc
default_taken address e = refl

-- a cell of one copy is stored under a key that has both
in_copy_lem : (copy c : Copy) (k : Key) → in_copy copy (copy_of c k) ≡ true → has_working k ≡ true
in_copy_lem copy c k e = ((and-eq-true_iff (same_copy copy c) (has_working k)).0 e).1

-- a slot accepts the empty slot's value
empty-taken : (c : Cell) → is_slot c ≡ true → takes c empty_slot ≡ true
empty-taken (copy_of c (setting s)) e = cc
empty-taken (copy_of c (input n)) e = cc
empty-taken (copy_of c (slot i)) e = refl
empty-taken (copy_of c address) e = refl
empty-taken (single x) e = cc

-- an action gives each cell that it stores in a value which the cell accepts, ...
action_taken : (a : Action) → Checked a → (c : Cell) → action_stores a c ≡ true → takes c (action_gives a c) ≡ true
action_taken (read d) h c e = cc
action_taken (read_nv d) h c e = cc
action_taken read_status h c e = cc
action_taken (write k v) h c e = at_same c (copy_of working k) v h.0.valued e
action_taken (program k v) h c e =
    either (has_working k && same c (copy_of working k)) (same c (copy_of nv k)) e
    (λ p. at_same c (copy_of working k) v h.valued ((and-eq-true_iff (has_working k) (same c (copy_of working k))).0 p).1)
    (at_same c (copy_of nv k) v h.valued)
action_taken set_default h (copy_of c k) e =
    default_taken k (either (in_copy working (copy_of c k)) (in_copy nv (copy_of c k)) e (in_copy_lem working c k) (in_copy_lem nv c k))
action_taken set_default h (single x) e = cc
action_taken erase_all h c e = empty-taken c e

-- ... and so does a power-up
power_up-taken : (s : Cells) → AllTake s → (c : Cell) → is_cell c ≡ true → power_up_stores c ≡ true → takes c (power_up_gives s c) ≡ true
power_up-taken s h (copy_of nv k) r e = h (copy_of nv k) r
power_up-taken s h (copy_of working k) r e = h (copy_of nv k) ((and-eq-true_iff (is_key k) (has_working k)).0 r).0
power_up-taken s h (single x) r e =
    either (same_single x rssi) (same_single x flags || same_single x events) e (λ p. rw (single_eq x rssi p))
    (λ q. either (same_single x flags) (same_single x events) q (λ p. rw (single_eq x flags p)) (λ p. rw (single_eq x events p)))

-- so after a step every cell holds a value that it accepts, if it did before
pub next-takes : (s : Cells) (d : Decision) → CheckedDecision d → AllTake s → AllTake (λ c. cond (stores d c) (gives s d c) (s c))
unfolding stores gives
next-takes s (refuse n) h a c r = a c r
next-takes s (execute payload b) h a c r =
    rw r (choice (λ v. takes c v ≡ true) (action_stores b c) (action_taken b h c) (λ _. a c r))
next-takes s execute_power_up h a c r =
    rw r (choice (λ v. takes c v ≡ true) (power_up_stores c) (power_up-taken s a c r) (λ _. a c r))
