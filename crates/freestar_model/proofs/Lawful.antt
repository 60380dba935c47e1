-- The model keeps what the theorem on sequences asks of it: a decision goes by whether the record's PAN ID fits and by nothing else of the cells,
-- and no step changes that.
-- Assumes nothing.
use Prim.Native.Nat.{ℕ, ◌+◌}
use mathlib.Core.Path.{◌≡◌, refl, sym, ap, ◌∙◌}
use mathlib.Core.Bool.{Bool, true, false, cond, ◌&&◌, ◌||◌, or-true, and-eq-true_iff}
use mathlib.Core.List.{List, [], ◌∷◌}
use borrow.Author.Tests.{eq-eqb}
use lib.Dec.{eqb, ltb}
use lib.ListN.{length, take}
use Rattle.logic.proofs.Choice.{choice, implied}
use Rattle.sequence.specs.Model.{next, Lawful}
use Rattle.refusal.specs.Refusal.{Result, accepted, refused}
use Rattle.freestar_packet.specs.declared.Message.{Message}
use Rattle.freestar_packet.specs.Layout.{set_pan_id, query_pan_id, set_address, query_address, set_channel, query_channel, answer_to, requests, fits_in, overhead, packet_bytes, pan_id_fits, has_pan_id, pan_id_holds}
use Rattle.freestar_packet.specs.Read.{data_in, read_frame}
use Rattle.freestar_model.specs.Cells.{Cell, pan_id_cell, number, is_in, Action, action_of, read_by, total, joined}
use Rattle.freestar_model.specs.Model.{Delivery, Decision, refuse, execute, decide_message, decide_frame, decide_given, decide, is_accepted, reads, stores, given, answered, model}

-- the record's PAN ID after a decision fits as it did before
abbrev Kept : (Cell → List ℕ) → Decision → Type 0
Kept s d = pan_id_fits (cond (stores d pan_id_cell) (given d pan_id_cell) (s pan_id_cell)) ≡ pan_id_fits (s pan_id_cell)

-- the first two bytes are the PAN ID
first_two : (bytes : List ℕ) → pan_id_fits (take 2 bytes) ≡ pan_id_fits bytes
first_two [] = refl
first_two (a ∷ []) = refl
first_two (a ∷ b ∷ rest) = refl

module _ (s : Cell → List ℕ) where
  action_kept : (type : ℕ) (bytes : List ℕ) → pan_id_holds type bytes ≡ true → pan_id_fits (s pan_id_cell) ≡ true → Kept s (execute type bytes (action_of type))
  action_kept type bytes holds fits =
      choice (λ (a : Action). Kept s (execute type bytes a)) (eqb type set_pan_id)
      (λ t. first_two bytes ∙ implied (has_pan_id type) (pan_id_fits bytes) holds (rw t) ∙ sym fits)
      (λ _. choice (λ (a : Action). Kept s (execute type bytes a)) (eqb type query_pan_id) (λ _. refl)
      (λ _. choice (λ (a : Action). Kept s (execute type bytes a)) (eqb type set_address) (λ _. refl)
      (λ _. choice (λ (a : Action). Kept s (execute type bytes a)) (eqb type query_address) (λ _. refl)
      (λ _. choice (λ (a : Action). Kept s (execute type bytes a)) (eqb type set_channel) (λ _. refl)
      (λ _. choice (λ (a : Action). Kept s (execute type bytes a)) (eqb type query_channel) (λ _. refl) (λ _. refl))))))

  message-kept : (room type : ℕ) (bytes : List ℕ) → Kept s (decide_message (pan_id_fits (s pan_id_cell)) room type bytes)
  message-kept room type bytes =
      choice (Kept s) (fits_in requests type (length bytes))
      (λ _. choice (Kept s) (pan_id_holds type bytes && pan_id_fits (s pan_id_cell))
      (λ t.
      let both = (and-eq-true_iff (pan_id_holds type bytes) (pan_id_fits (s pan_id_cell))).0 t in
      choice (Kept s) (ltb room (overhead + total (read_by (action_of type)))) (λ _. refl) (λ _. action_kept type bytes both.0 both.1))
      (λ _. refl))
      (λ _. refl)

  frame-kept : (x : Delivery) (r : Result Message) → Kept s (decide_frame (pan_id_fits (s pan_id_cell)) x r)
  frame-kept x (accepted m) = message-kept x.room m.kind (data_in x.block)
  frame-kept x (refused n) = refl

  pub fits_kept : (x : Delivery) → pan_id_fits (next model s x pan_id_cell) ≡ pan_id_fits (s pan_id_cell)
  unfolding decide
  fits_kept x = frame-kept x (read_frame x.block)

-- cells that agree where they are read are answered alike
pub joined_same : (s t : Cell → List ℕ) (cells : List Cell) → ((c : Cell) → is_in cells c ≡ true → t c ≡ s c) → joined t cells ≡ joined s cells
joined_same s t [] agree = refl
joined_same s t (c ∷ cells) agree =
    cc (
      agree c (rw (eq-eqb (number c) (number c) refl)),
      joined_same s t cells (λ d e. agree d (rw (e, or-true (eqb (number d) (number c))))),
    )

answered-same : (s t : Cell → List ℕ) (d : Decision) → ((c : Cell) → reads d c || stores d c ≡ true → t c ≡ s c) → answered t d ≡ answered s d
answered-same s t (refuse n) agree = refl
answered-same s t (execute type bytes a) agree =
    ap (λ (l : List ℕ). accepted (packet_bytes (answer_to type) l)) (joined_same s t (read_by a) (λ c e. agree c (rw e)))

refused-stores : (d : Decision) → is_accepted d ≡ false → (c : Cell) → stores d c ≡ false
refused-stores (refuse n) e c = refl
refused-stores (execute type bytes a) e c = cc

pub refused-reads-none : (d : Decision) → is_accepted d ≡ false → (c : Cell) → reads d c ≡ false
refused-reads-none (refuse n) e c = refl
refused-reads-none (execute type bytes a) e c = cc

pub lawful : Lawful model
unfolding decide
lawful = record {
  class = λ s. pan_id_fits (s pan_id_cell);
  class-kept = fits_kept;
  framed = λ s t x class agree.
      let same : decide t x ≡ decide s x = ap (λ (fits : Bool). decide_given fits x) class in
      (same, ap (answered t) same ∙ answered-same s t (decide s x) agree, λ c stored. ap (λ (d : Decision). given d c) same);
  refused-stores-none = λ s x e c. refused-stores (decide s x) e c;
}
