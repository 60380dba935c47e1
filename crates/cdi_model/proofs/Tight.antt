-- The table is tight: it names every cell that a step touches, by the law that the sequence theorem asks of it, and no other, by one
-- computation over every sample and every cell that it names.
-- Assumes nothing.
use Prim.Native.Nat.{ℕ}
use mathlib.Core.Path.{◌≡◌, refl, sym, ap, ◌∙◌}
use mathlib.Core.Bool.{Bool, true, false, not, ◌&&◌, ◌||◌, beq, and-eq-true_iff, true≢false}
use mathlib.Core.List.{List, [], ◌∷◌, map, flat_map}
use borrow.Author.Tests.{ltb-true, eq-eqb}
use lib.Dec.{eqb}
use lib.ListN.{length}
use Rattle.logic.specs.Lists.{all_below, same_bytes, all, any}
use Rattle.logic.proofs.Below.{all-at}
use Rattle.logic.proofs.Choice.{choice}
use Rattle.refusal.specs.Refusal.{value_not_accepted}
use Rattle.cdi_item.specs.Items.{items, item_in, item_of}
use Rattle.cdi_item.specs.Values.{accepted_value}
use Rattle.cdi_command.specs.Command.{select, command_on, parse_item, is_served, is_head_length_right, parse_payload, validate_payload}
use Rattle.cdi_model.specs.Cells.{nv, working, line_mask_code, latch_mask_code, tx_power_code, control_source_code, message_select_code, interrupt_mask_code, setting, input, slot, address, name, firmware, serial, lines, rssi, ladj, events, flags, hardwarePower, hardwareLineMask, hardwareLatchMask, Cell, copy_of, single, Key, has_working, is_key, is_cell, same}
use Rattle.cdi_model.specs.Values.{up_to_zero}
use Rattle.cdi_model.specs.Action.{Action, write, program, action_of}
use Rattle.cdi_model.specs.Table.{Decision, refuse, execute, execute_power_up, is_accepted, reads, stores}
use Rattle.cdi_model.specs.Model.{Cells, is_valid, decide_payload, gives, value_read, response_payload}
use Rattle.cdi_model.specs.Tight.{those, every_cell, is_in, all_apart, sample_payloads, sample_decisions, state_of, base, hardware_shown, working_shown, other, differ_in, changed, response_of, differs, stored_cells, matters, changes, is_tight}
use Rattle.cdi_model.proofs.Cells.{same_eq}
use Rattle.cdi_model.proofs.Checked.{CheckedDecision, payload-checked}
use Rattle.cdi_model.proofs.Validity.{takes, each-input, valid-takes, takes-valid}
use Rattle.cdi_model.proofs.Lawful.{AgreeOn, value-framed, gives-framed}

-- ---- the list of cells is 01's: 68 cells, no one twice, ...
pub cell_count : length every_cell ≡ 68
unfolding every_cell
cell_count = refl

pub cells_are : (all is_cell every_cell ≡ true) × (all_apart every_cell ≡ true)
unfolding every_cell
cells_are = (refl, refl)

slots_in_lem : all_below 40 (λ i. is_in (copy_of nv (slot i)) every_cell) ≡ true
unfolding every_cell all_below
slots_in_lem = refl

-- ... and no one missing
pub every_cell_lem : (c : Cell) → is_cell c ≡ true → is_in c every_cell ≡ true
unfolding every_cell
every_cell_lem (copy_of nv (setting line_mask_code)) e = refl
every_cell_lem (copy_of nv (setting latch_mask_code)) e = refl
every_cell_lem (copy_of nv (setting tx_power_code)) e = refl
every_cell_lem (copy_of nv (setting control_source_code)) e = refl
every_cell_lem (copy_of nv (setting message_select_code)) e = refl
every_cell_lem (copy_of nv (setting interrupt_mask_code)) e = refl
every_cell_lem (copy_of nv (input n)) e = each-input (λ i. is_in (copy_of nv (input i)) every_cell ≡ true) refl refl n e
every_cell_lem (copy_of nv (slot i)) e = all-at 40 (λ i. is_in (copy_of nv (slot i)) every_cell) slots_in_lem i (ltb-true i 40 e)
every_cell_lem (copy_of nv address) e = refl
every_cell_lem (copy_of working (setting line_mask_code)) e = refl
every_cell_lem (copy_of working (setting latch_mask_code)) e = refl
every_cell_lem (copy_of working (setting tx_power_code)) e = refl
every_cell_lem (copy_of working (setting control_source_code)) e = refl
every_cell_lem (copy_of working (setting message_select_code)) e = refl
every_cell_lem (copy_of working (setting interrupt_mask_code)) e = refl
every_cell_lem (copy_of working (input n)) e =
    each-input (λ i. is_in (copy_of working (input i)) every_cell ≡ true) refl refl n ((and-eq-true_iff (is_key (input n)) true).0 e).0
every_cell_lem (copy_of working (slot i)) e = cc ((and-eq-true_iff (is_key (slot i)) (has_working (slot i))).0 e).1
every_cell_lem (copy_of working address) e = cc
every_cell_lem (single name) e = refl
every_cell_lem (single firmware) e = refl
every_cell_lem (single serial) e = refl
every_cell_lem (single lines) e = refl
every_cell_lem (single rssi) e = refl
every_cell_lem (single ladj) e = refl
every_cell_lem (single events) e = refl
every_cell_lem (single flags) e = refl
every_cell_lem (single hardwarePower) e = refl
every_cell_lem (single hardwareLineMask) e = refl
every_cell_lem (single hardwareLatchMask) e = refl

-- ---- the samples: no one is refused, ...
pub samples_accepted : (length sample_payloads ≡ 167) × (all (λ (p : List ℕ). is_accepted (decide_payload p)) sample_payloads ≡ true)
unfolding sample_payloads items flat_map decide_payload item_in item_of accepted_value select command_on parse_item is_served is_head_length_right parse_payload validate_payload
samples_accepted = (refl, refl)

-- ... the states differ in every cell, and are valid, also with a cell from the other
abbrev serves : ℕ → Bool
serves control =
    is_valid (base control) && all (differ_in (base control) other) every_cell && all (λ c. is_valid (changed (base control) c)) every_cell

pub all_true : (f : Cell → Bool) → ((c : Cell) → f c ≡ true) → (l : List Cell) → all f l ≡ true
all_true f h [] = refl
all_true f h (c ∷ l) = (and-eq-true_iff (f c) (all f l)).1 (h c, all_true f h l)

-- validity goes cell by cell, so it is computed for the states alone
states-valid : (is_valid (base hardware_shown) ≡ true) × (is_valid (base working_shown) ≡ true) × (is_valid other ≡ true)
unfolding state_of is_valid all_below
states-valid = (refl, refl, refl)

changed-valid : (s : Cells) → is_valid s ≡ true → (c : Cell) → is_valid (changed s c) ≡ true
changed-valid s e c =
    takes-valid (changed s c)
    (λ d h. choice (λ v. takes d v ≡ true) (same d c) (λ _. valid-takes other states-valid.2 d h) (λ _. valid-takes s e d h))

cells_differ : (all (differ_in (base hardware_shown) other) every_cell ≡ true) × (all (differ_in (base working_shown) other) every_cell ≡ true)
unfolding state_of every_cell
cells_differ = (refl, refl)

state-serves : (control : ℕ) → is_valid (base control) ≡ true → all (differ_in (base control) other) every_cell ≡ true → serves control ≡ true
state-serves control e differ = rw (e, differ) (all_true _ (changed-valid (base control) e) every_cell)

pub states_serve : (serves hardware_shown ≡ true) × (serves working_shown ≡ true) × (is_valid other ≡ true)
states_serve =
    (state-serves hardware_shown states-valid.0 cells_differ.0, state-serves working_shown states-valid.1 cells_differ.1, states-valid.2)

-- ---- what the table does not name
module _ {A : Type 0} where
  all_weaken : (f g : A → Bool) (l : List A) → ((x : A) → f x ≡ true → g x ≡ true) → all f l ≡ true → all g l ≡ true
  all_weaken f g [] h e = refl
  all_weaken f g (x ∷ l) h e =
      let p = (and-eq-true_iff (f x) (all f l)).0 e in
      (and-eq-true_iff (g x) (all g l)).1 (h x p.0, all_weaken f g l h p.1)

  none_of : (p ok : A → Bool) (l : List A) → ((x : A) → p x ≡ true → ok x ≡ false) → any ok (those p l) ≡ false
  none_of p ok [] h = refl
  none_of p ok (x ∷ l) h = choice (λ m. any ok m ≡ false) (p x) (λ e. rw (h x e) (none_of p ok l h)) (λ _. none_of p ok l h)

same-bytes_refl : (v : List ℕ) → same_bytes v v ≡ true
same-bytes_refl [] = refl
same-bytes_refl (b ∷ v) = (and-eq-true_iff (eqb b b) (same_bytes v v)).1 (eq-eqb b b refl, same-bytes_refl v)

-- a response shows no more than the value that is read
response-framed : (s t : Cells) (d : Decision) → value_read t d ≡ value_read s d → response_of t d ≡ response_of s d
response-framed s t (refuse n) e = refl
response-framed s t (execute payload a) e = ap (response_payload payload a) e
response-framed s t execute_power_up e = refl

-- a cell that is not named as read makes no difference, so the test need not be computed for it
module _ (d : Decision) (checked : CheckedDecision d) (c : Cell) (unread : reads d c ≡ false) where
  agree : (s : Cells) → AgreeOn d s (changed s c)
  agree s e p =
      choice (λ v. v ≡ s e) (same e c) (λ q. absurd (true≢false (sym p ∙ ap (reads d) (same_eq e c q) ∙ unread))) (λ _. refl)

  no_difference : (s : Cells) → differs s d (stored_cells d) c ≡ false
  no_difference s =
      let response = response-framed s (changed s c) d (value-framed s (changed s c) d checked (agree s)) in
      rw response
      (rw (same-bytes_refl (response_of s d))
      (none_of (stores d) (differ_in (gives (changed s c) d) (gives s d)) every_cell
      (λ e p. rw (gives-framed s (changed s c) d (agree s) e p) (rw (same-bytes_refl (gives s d e)) refl))))

  matters_not : matters d (stored_cells d) c ≡ false
  matters_not = rw (no_difference (base hardware_shown)) (no_difference (base working_shown))

-- ---- what the table names: if c is named as read it makes a difference, and if it is named as stored in it changes
abbrev is_unpadded_at : Decision → Cell → Bool
is_unpadded_at d c = (not (reads d c) || matters d (stored_cells d) c) && (not (stores d c) || changes d c)

abbrev is_unpadded : Decision → Bool
is_unpadded d = all (is_unpadded_at d) every_cell

exact : (a b : Bool) → (a ≡ false → b ≡ false) → not a || b ≡ true → beq a b ≡ true
exact true true h e = refl
exact true false h e = cc
exact false true h e = cc (h refl)
exact false false h e = refl

unpadded_tight : (d : Decision) → CheckedDecision d → is_unpadded d ≡ true → is_tight d ≡ true
unfolding is_tight
unpadded_tight d checked =
    all_weaken (is_unpadded_at d) _ every_cell (λ c e.
    let p = (and-eq-true_iff (not (reads d c) || matters d (stored_cells d) c) (not (stores d c) || changes d c)).0 e in
    (and-eq-true_iff _ _).1 (exact (reads d c) _ (matters_not d checked c) p.0, exact (stores d c) _ (λ f. rw f) p.1))

-- ---- the table
-- it names no cell too many, ...
table_unpadded : all is_unpadded sample_decisions ≡ true
unfolding sample_decisions sample_payloads items flat_map decide_payload item_in item_of accepted_value
    select command_on parse_item is_served is_head_length_right parse_payload validate_payload state_of every_cell reads stores gives value_read response_payload up_to_zero action_of
table_unpadded = refl

payloads_tight : (ps : List (List ℕ)) → all is_unpadded (map decide_payload ps) ≡ true → all is_tight (map decide_payload ps) ≡ true
payloads_tight [] e = refl
payloads_tight (p ∷ ps) e =
    let q = (and-eq-true_iff (is_unpadded (decide_payload p)) _).0 e in
    (and-eq-true_iff (is_tight (decide_payload p)) _).1 (unpadded_tight (decide_payload p) (payload-checked p) q.0, payloads_tight ps q.1)

-- ... and none too few
pub table_is_tight : all is_tight sample_decisions ≡ true
unfolding sample_decisions
table_is_tight =
    let p = (and-eq-true_iff (is_unpadded (refuse value_not_accepted)) _).0 table_unpadded in
    let q = (and-eq-true_iff (is_unpadded execute_power_up) _).0 p.1 in
    (and-eq-true_iff _ _).1 (
      unpadded_tight (refuse value_not_accepted) tt p.0,
      (and-eq-true_iff _ _).1 (unpadded_tight execute_power_up tt q.0, payloads_tight sample_payloads q.1),
    )

-- ---- the samples stand for every payload and value: the table goes by the command and its key alone
abbrev SameInTable : Decision → Decision → Type 0
SameInTable d e = (c : Cell) → (reads d c ≡ reads e c) × (stores d c ≡ stores e c)

pub any-payload : (p q : List ℕ) (a : Action) → SameInTable (execute p a) (execute q a)
unfolding reads stores
any-payload p q a c = (refl, refl)

pub any_value : (p : List ℕ) (k : Key) (v w : List ℕ)
    → SameInTable (execute p (write k v)) (execute p (write k w)) × SameInTable (execute p (program k v)) (execute p (program k w))
unfolding reads stores
any_value p k v w = (λ c. (refl, refl), λ c. (refl, refl))
