-- The model keeps what the theorem asks of it: no step changes validity, and beside validity a step goes by the cells that the table
-- names and changes no other. Beyond that, a refused step reads no cell.
-- Assumes nothing.
use mathlib.Core.Path.{◌≡◌, refl, sym, ap, ap₂, ◌∙◌}
use mathlib.Core.Bool.{true, false, cond, ◌&&◌, ◌||◌, and-false, and-eq-true_iff}
use mathlib.Core.List.{List}
use lib.Dec.{ltb}
use lib.ListN.{length}
use Rattle.logic.proofs.Choice.{choice, by_cases, either}
use Rattle.sequence.specs.Model.{Lawful, next, accepts, stores_in, touches, results}
use Rattle.sequence.proofs.Laws.{results_by_real}
use Rattle.cdi_command.specs.Payload.{response_buffer_min}
use Rattle.cdi_model.specs.Cells.{nv, working, line_mask_code, latch_mask_code, tx_power_code, control_source_code, interrupt_mask_code, setting, events, flags, hardwarePower, hardwareLineMask, hardwareLatchMask, Cell, copy_of, single, has_working, is_key, is_cell, same}
use Rattle.cdi_model.specs.Step.{Step, power_up, command}
use Rattle.cdi_model.specs.Action.{Action, read, read_nv, read_status, write, program, set_default, erase_all}
use Rattle.cdi_model.specs.Table.{Decision, refuse, execute, execute_power_up, is_accepted, in_copy, action_reads, action_stores, power_up_stores, reads, stores}
use Rattle.cdi_model.specs.Model.{Cells, is_valid, decide, gives, shown, action_value, value_read, result_of, model}
use Rattle.cdi_model.proofs.Cells.{same_refl}
use Rattle.cdi_model.proofs.Checked.{Checked, CheckedDecision, step-checked}
use Rattle.cdi_model.proofs.Validity.{valid-takes, takes-valid}
use Rattle.cdi_model.proofs.Stored.{next-takes}

-- ---- validity
-- on an invalid state every step is refused
pub invalid-refused : (s : Cells) (x : Step) → is_valid s ≡ false → is_accepted (decide s x) ≡ false
unfolding decide
invalid-refused s power_up e = rw e
invalid-refused s (command r) e =
    choice (λ d. is_accepted d ≡ false) (ltb (length r.response) response_buffer_min) (λ _. refl) (λ _. rw e)

-- what is refused leaves validity
refused-kept : (s : Cells) (d : Decision) → is_accepted d ≡ false → is_valid (λ c. cond (stores d c) (gives s d c) (s c)) ≡ is_valid s
unfolding stores
refused-kept s (refuse n) e = refl
refused-kept s (execute payload a) e = cc
refused-kept s execute_power_up e = cc

-- no step changes validity
pub validity_kept : (s : Cells) (x : Step) → is_valid (next model s x) ≡ is_valid s
validity_kept s x =
    by_cases (is_valid s)
    (λ e. takes-valid (next model s x) (next-takes s (decide s x) (step-checked s x) (valid-takes s e)) ∙ sym e)
    (λ e. refused-kept s (decide s x) (invalid-refused s x e))

-- ---- beside validity, what the table names
-- the cells agree where the decision reads
abbrev pub AgreeOn : Decision → Cells → Cells → Type 0
AgreeOn d s t = (c : Cell) → reads d c ≡ true → t c ≡ s c

module _ (s t : Cells) where
  -- an action reads the same value from cells that agree where it reads, ...
  action_value_lem : (a : Action) → Checked a → ((c : Cell) → is_cell c && action_reads a c ≡ true → t c ≡ s c) → action_value t a ≡ action_value s a
  action_value_lem (read d) k h = ap (shown d) (h d ((and-eq-true_iff (is_cell d) (same d d)).1 (k, same_refl d)))
  action_value_lem (read_nv d) k h = ap (shown d) (h d ((and-eq-true_iff (is_cell d) (same d d)).1 (k, same_refl d)))
  action_value_lem read_status k h =
      rw (
        h (single flags) refl,
        h (single events) refl,
        h (single hardwarePower) refl,
        h (single hardwareLineMask) refl,
        h (single hardwareLatchMask) refl,
        h (copy_of working (setting line_mask_code)) refl,
        h (copy_of working (setting latch_mask_code)) refl,
        h (copy_of working (setting tx_power_code)) refl,
        h (copy_of working (setting control_source_code)) refl,
        h (copy_of working (setting interrupt_mask_code)) refl,
      )
  action_value_lem (write j v) k h = refl
  action_value_lem (program j v) k h = refl
  action_value_lem set_default k h = refl
  action_value_lem erase_all k h = refl

  -- ... and so does a step
  pub value-framed : (d : Decision) → CheckedDecision d → AgreeOn d s t → value_read t d ≡ value_read s d
  unfolding value_read reads
  value-framed (refuse n) k h = refl
  value-framed (execute payload a) k h = action_value_lem a k h
  value-framed execute_power_up k h = refl

  -- a step gives the same values: a power-up gives a working copy what it reads in the other
  pub gives-framed : (d : Decision) → AgreeOn d s t → (c : Cell) → stores d c ≡ true → gives t d c ≡ gives s d c
  unfolding gives reads stores
  gives-framed (refuse n) h c e = refl
  gives-framed (execute payload a) h c e = refl
  gives-framed execute_power_up h (copy_of nv k) e = cc (and-false (is_key k))
  gives-framed execute_power_up h (copy_of working k) e =
      h (copy_of nv k) ((and-eq-true_iff (is_key k && has_working k) (power_up_stores (copy_of working k))).0 e).0
  gives-framed execute_power_up h (single x) e = refl

-- a decision knows no more of the cells than their validity
decide-framed : (s t : Cells) (x : Step) → is_valid t ≡ is_valid s → decide t x ≡ decide s x
unfolding decide
decide-framed s t power_up e = rw e
decide-framed s t (command r) e = rw e

-- ---- refused steps
-- a refusal reads no cell and stores in none, ...
refusal-none : (d : Decision) → is_accepted d ≡ false → (c : Cell) → (reads d c ≡ false) × (stores d c ≡ false)
unfolding reads stores
refusal-none (refuse n) e c = (refl, refl)
refusal-none (execute payload a) e c = (cc, cc)
refusal-none execute_power_up e c = (cc, cc)

-- ... so a step that is not accepted stores in no cell, as the theorem asks, ...
pub refused-stores-none : (s : Cells) (x : Step) → accepts model s x ≡ false → (c : Cell) → stores_in model s x c ≡ false
refused-stores-none s x e c = (refusal-none (decide s x) e c).1

-- ... and reads none, whatever it is refused for: that is this table's own
pub refused-reads-none : (s : Cells) (x : Step) → accepts model s x ≡ false → (c : Cell) → reads (decide s x) c ≡ false
refused-reads-none s x e c = (refusal-none (decide s x) e c).0

-- both at once
pub refused-touches-none : (s : Cells) (x : Step) → accepts model s x ≡ false → (c : Cell) → touches model s x c ≡ false
refused-touches-none s x e c = rw (refused-reads-none s x e c, refused-stores-none s x e c)

-- ---- the model is lawful, with validity as all that a decision knows of other cells
pub lawful : Lawful model
lawful = record {
  class = is_valid;
  class-kept = validity_kept;
  framed = λ s t x e h.
      let d : decide t x ≡ decide s x = decide-framed s t x e in
      let agree : AgreeOn (decide s x) s t = λ c p. h c (rw p) in (
        d,
        ap₂ (result_of x) d (ap (value_read t) d ∙ value-framed s t (decide s x) (step-checked s x) agree),
        λ c p. ap (λ (d : Decision). gives t d c) d ∙ gives-framed s t (decide s x) agree c p,
      );
  refused-stores-none = refused-stores-none;
}

-- ---- real cells
-- a step touches real cells alone, ...
pub decision_touches_real : (d : Decision) (c : Cell) → reads d c || stores d c ≡ true → is_cell c ≡ true
unfolding reads stores
decision_touches_real (refuse n) c e = cc
decision_touches_real (execute payload a) c e =
    either (is_cell c && action_reads a c) (is_cell c && action_stores a c) e
    (λ p. ((and-eq-true_iff (is_cell c) (action_reads a c)).0 p).0) (λ p. ((and-eq-true_iff (is_cell c) (action_stores a c)).0 p).0)
decision_touches_real execute_power_up c e =
    either (is_cell c && in_copy nv c) (is_cell c && power_up_stores c) e
    (λ p. ((and-eq-true_iff (is_cell c) (in_copy nv c)).0 p).0) (λ p. ((and-eq-true_iff (is_cell c) (power_up_stores c)).0 p).0)

-- ... so what stands under a name that is no cell is never seen
pub results_by_real_cells : (s t : Cells) (xs : List Step) → is_valid t ≡ is_valid s → ((c : Cell) → is_cell c ≡ true → t c ≡ s c)
    → results model t xs ≡ results model s xs
unfolding lawful
results_by_real_cells = results_by_real model lawful is_cell (λ s x c. decision_touches_real (decide s x) c)
