-- Which neighbours are apart, so that their exchange is more than a promise about nothing: refused steps, reads, writes of different
-- keys, the status and a setting that it does not show; and that the status and a setting which it shows are not. And for any two steps
-- it is computed from the table, over the 68 cells, whether they are apart.
-- Assumes nothing.
use Prim.Native.Nat.{ℕ}
use mathlib.Core.Path.{◌≡◌, refl, sym, subst, ◌∙◌}
use mathlib.Core.Bool.{Bool, true, false, not, ◌&&◌, ◌||◌, and-false, and-eq-true_iff, true≢false}
use mathlib.Core.List.{List, [], ◌∷◌}
use Rattle.logic.specs.Lists.{all}
use Rattle.logic.proofs.Choice.{by_cases, neither, implied, either}
use Rattle.sequence.specs.Model.{Apart, next, accepts}
use Rattle.cdi_model.specs.Cells.{working, control_source_code, message_select_code, Key, setting, Cell, copy_of, is_cell, same, same_key}
use Rattle.cdi_model.specs.Step.{Step}
use Rattle.cdi_model.specs.Action.{Action, read, read_nv, read_status, write, program, set_default, erase_all}
use Rattle.cdi_model.specs.Table.{Decision, execute, action_reads, action_stores, reads, stores}
use Rattle.cdi_model.specs.Model.{Cells, decide, model}
use Rattle.cdi_model.specs.Tight.{every_cell, is_in}
use Rattle.cdi_model.specs.Apart.{leaves, are_apart}
use Rattle.cdi_model.proofs.Cells.{key_refl, same_eq}
use Rattle.cdi_model.proofs.Lawful.{refused-stores-none, refused-touches-none, decision_touches_real}
use Rattle.cdi_model.proofs.Tight.{every_cell_lem, all_true}

-- a refused step is apart from every step, before it and behind it
pub refused-first : (s : Cells) (a b : Step) → accepts model s a ≡ false → Apart model s a b
refused-first s a b e = record { first-stores = λ c p. cc (refused-stores-none s a e c); second-stores = λ c p. refused-touches-none s a e c }

pub refused-second : (s : Cells) (a b : Step) → accepts model (next model s a) b ≡ false → Apart model s a b
refused-second s a b e =
    let t = next model s a in
    record { first-stores = λ c p. refused-touches-none t b e c; second-stores = λ c p. cc (refused-stores-none t b e c) }

-- where the first action stores, the second neither reads nor stores
abbrev Clear : Action → Action → Type 0
Clear f g = (c : Cell) → action_stores f c ≡ true → action_reads g c || action_stores g c ≡ false

-- the same by the table, which names real cells alone
off : (c : Cell) (f g : Action) → Clear f g → is_cell c && action_stores f c ≡ true
    → (is_cell c && action_reads g c) || (is_cell c && action_stores g c) ≡ false
off c f g h z =
    let p = neither (action_reads g c) (action_stores g c) (h c ((and-eq-true_iff (is_cell c) (action_stores f c)).0 z).1) in
    simp (p.0, p.1, and-false)

-- Read, Read NV and the status
abbrev pub stores_nothing : Action → Bool
stores_nothing (read d) = true
stores_nothing (read_nv d) = true
stores_nothing read_status = true
stores_nothing (write k v) = false
stores_nothing (program k v) = false
stores_nothing set_default = false
stores_nothing erase_all = false

-- they store in no cell
stores_nothing_lem : (a : Action) → stores_nothing a ≡ true → (c : Cell) → action_stores a c ≡ false
stores_nothing_lem (read d) e c = refl
stores_nothing_lem (read_nv d) e c = refl
stores_nothing_lem read_status e c = refl
stores_nothing_lem (write k v) e c = cc
stores_nothing_lem (program k v) e c = cc
stores_nothing_lem set_default e c = cc
stores_nothing_lem erase_all e c = cc

module _ (s : Cells) (a b : Step) (p q : List ℕ) (f g : Action) (first : decide s a ≡ execute p f)
    (second : decide (next model s a) b ≡ execute q g) where
  -- two steps are apart where their actions are clear of each other
  apart : Clear f g → Clear g f → Apart model s a b
  unfolding reads stores
  apart h k = record {
    first-stores = λ c z. rw second (off c f g h (subst (λ (d : Decision). stores d c ≡ true) first z));
    second-stores = λ c z. rw first (off c g f k (subst (λ (d : Decision). stores d c ≡ true) second z));
  }

  -- two actions that store nothing are apart
  pub two-reads : stores_nothing f ≡ true → stores_nothing g ≡ true → Apart model s a b
  two-reads h k = apart (λ c e. cc (stores_nothing_lem f h c)) (λ c e. cc (stores_nothing_lem g k c))

module _ (s : Cells) (a b : Step) (p q : List ℕ) where
  -- Writes of different keys are apart
  pub two-writes : (k l : Key) (v w : List ℕ) → decide s a ≡ execute p (write k v) → decide (next model s a) b ≡ execute q (write l w)
      → same_key k l ≡ false → Apart model s a b
  two-writes k l v w first second n =
      apart s a b p q (write k v) (write l w) first second
      (λ c e. by_cases (same c (copy_of working l)) (λ z. one_key c e z) (λ z. z))
      (λ c e. by_cases (same c (copy_of working k)) (λ z. one_key c z e) (λ z. z))
    where
      one_key : {P : Type 0} (c : Cell) → same c (copy_of working k) ≡ true → same c (copy_of working l) ≡ true → P
      one_key c e z =
          let i : k ≡ l = cc (same_eq c (copy_of working k) e, same_eq c (copy_of working l) z) in
          absurd (true≢false (sym (rw i (key_refl l)) ∙ n))

  module _ (v : List ℕ) where
    -- the status does not read item 15
    clear : Clear (write (setting message_select_code) v) read_status
    clear c e = rw (same_eq c (copy_of working (setting message_select_code)) e)

    -- so the status and a Write of item 15 are apart, in both orders, ...
    pub status_and_write : decide s a ≡ execute p read_status → decide (next model s a) b ≡ execute q (write (setting message_select_code) v)
        → Apart model s a b
    status_and_write first second = apart s a b p q read_status (write (setting message_select_code) v) first second (λ c e. cc) clear

    pub write_and_status : decide s a ≡ execute p (write (setting message_select_code) v) → decide (next model s a) b ≡ execute q read_status
        → Apart model s a b
    write_and_status first second = apart s a b p q (write (setting message_select_code) v) read_status first second clear (λ c e. cc)

    -- ... but not the status and a Write of item 14, which tells what the status shows
    pub status_not_apart : decide s a ≡ execute p read_status → decide (next model s a) b ≡ execute q (write (setting control_source_code) v)
        → Apart model s a b → ⊥
    unfolding reads stores
    status_not_apart first second h =
        let c : Cell = copy_of working (setting control_source_code) in
        true≢false (sym (rw first) ∙ h.second-stores c (rw second))

    pub write_not_apart : decide s a ≡ execute p (write (setting control_source_code) v) → decide (next model s a) b ≡ execute q read_status
        → Apart model s a b → ⊥
    unfolding reads stores
    write_not_apart first second h =
        let c : Cell = copy_of working (setting control_source_code) in
        true≢false (sym (rw second) ∙ h.first-stores c (rw first))

-- ---- computed
-- what passes at each cell of a list passes at a cell that is in it
pub at_cell : (ok : Cell → Bool) (l : List Cell) (c : Cell) → all ok l ≡ true → is_in c l ≡ true → ok c ≡ true
at_cell ok [] c e is = cc
at_cell ok (d ∷ l) c e is =
    let both = (and-eq-true_iff (ok d) (all ok l)).0 e in
    either (same c d) (is_in c l) is (λ q. rw (same_eq c d q) both.0) (λ q. at_cell ok l c both.1 q)

off_false : (t : Bool) → not t ≡ true → t ≡ false
off_false true e = cc
off_false false e = refl

left : (p q : Bool) → (p ≡ true → q ≡ false) → not p || not q ≡ true
left true q h = rw (h refl)
left false q h = refl

-- a cell that a step stores in is one of the 68
stored_cell : (d : Decision) (c : Cell) → stores d c ≡ true → is_in c every_cell ≡ true
stored_cell d c e = every_cell_lem c (decision_touches_real d c (by_cases (reads d c) (λ q. rw q) (λ q. rw (q, e))))

-- two steps are apart exactly where the test passes
pub apart_is_computed : (s : Cells) (a b : Step)
    → (are_apart (decide s a) (decide (next model s a) b) ≡ true → Apart model s a b)
    × (Apart model s a b → are_apart (decide s a) (decide (next model s a) b) ≡ true)
unfolding are_apart
apart_is_computed s a b =
    let d = decide s a in
    let e = decide (next model s a) b in
    let ok : Cell → Bool = λ c. leaves d e c && leaves e d c in
    let at : all ok every_cell ≡ true → (c : Cell) → is_in c every_cell ≡ true → (leaves d e c ≡ true) × (leaves e d c ≡ true) =
    λ t c is. (and-eq-true_iff (leaves d e c) (leaves e d c)).0 (at_cell ok every_cell c t is) in (
      λ t. record {
        first-stores = λ c p. off_false (reads e c || stores e c) (implied (stores d c) (not (reads e c || stores e c)) (at t c (stored_cell d c p)).0 p);
        second-stores = λ c p. off_false (reads d c || stores d c) (implied (stores e c) (not (reads d c || stores d c)) (at t c (stored_cell e c p)).1 p);
      },
      λ h. all_true ok (λ c. (and-eq-true_iff (leaves d e c) (leaves e d c)).1
          (left (stores d c) (reads e c || stores e c) (h.first-stores c), left (stores e c) (reads d c || stores d c) (h.second-stores c))) every_cell,
    )
