-- `execute` follows the model: it decides as the model does, so its answer and every field after it are the model's.
-- Assumes nothing.
use Prim.Native.Nat.{ℕ}
use mathlib.Core.Path.{◌≡◌, refl, sym, ap, ◌∙◌}
use mathlib.Core.Bool.{true, cond, ◌&&◌}
use mathlib.Core.List.{List}
use lib.Dec.{ltb}
use lib.ListN.{length}
use Rattle.logic.proofs.Choice.{by_cases}
use Rattle.sequence.specs.Model.{next}
use Rattle.sequence.specs.Machine.{Follows}
use Rattle.refusal.specs.Refusal.{Result, accepted, refused, and_then, frame_buffer_short}
use Rattle.freestar_packet.specs.declared.Message.{Message}
use Rattle.freestar_packet.specs.Layout.{answer_to, requests, fits_in, packet_bytes, pan_id_fits, pan_id_holds}
use Rattle.freestar_packet.specs.Read.{data_in, read_frame}
use Rattle.refusal.specs.Numbers.{in_room}
use Rattle.freestar_model.specs.Cells.{Cell, pan_id_cell, long_address_cell, short_address_cell, channel, action_of}
use Rattle.freestar_model.specs.Model.{Delivery, Decision, refuse, execute, decide_frame, decide, stores, given, answered, model}
use Rattle.freestar_settings.specs.declared.Settings.{Settings}
use Rattle.freestar_settings.specs.Settings.{ArrayLengths, settings, answer, validate_message, validate, result_of, settings_by, step}
use Rattle.freestar_settings.proofs.Accepted.{validated}
use Rattle.freestar_sequence.specs.Machine.{cells, machine}
use Rattle.freestar_sequence.proofs.Agreement.{data_agree, stored-agree, answer-length, lengths-kept}

-- the model's decision, by what `execute` has tested
abbrev pub decision_of : Settings → Delivery → Result Message → Decision
decision_of s x (accepted m) =
    cond (ltb x.room (length (answer s m.kind))) (refuse frame_buffer_short) (execute m.kind (data_in x.block) (action_of m.kind))
decision_of s x (refused n) = refuse n

module _ (s : Settings) (h : ArrayLengths s) (x : Delivery) where
  of_frame : (r : Result Message)
      → decide_frame (pan_id_fits s.pan_id) x r ≡ decision_of s x (and_then r (validate_message s (data_in x.block)))
  of_frame (refused n) = refl
  of_frame (accepted m) =
      by_cases (fits_in requests m.kind (length (data_in x.block)))
      (λ t. by_cases (pan_id_holds m.kind (data_in x.block) && pan_id_fits s.pan_id)
      (λ u. simp (t, u, answer-length s h m.kind))
      (λ f. simp (t, f)))
      (λ f. simp f)

  pub decided : decide (cells s) x ≡ decision_of s x (validate s x.block)
  unfolding decide validate
  decided = of_frame (read_frame x.block)

  -- the answer
  answered_by : (r : Result Message)
      → and_then r (λ m. in_room x.room (answer s m.kind)) ≡ answered (cells s) (decision_of s x r)
  unfolding answer
  answered_by (refused n) = refl
  answered_by (accepted m) =
      by_cases (ltb x.room (length (answer s m.kind)))
      (λ t. rw t)
      (λ f. rw f (ap (λ (l : List ℕ). accepted (packet_bytes (answer_to m.kind) l)) (data_agree s m.kind)))

  pub result_is : result_of s x ≡ answered (cells s) (decide (cells s) x)
  unfolding result_of
  result_is = answered_by (validate s x.block) ∙ ap (answered (cells s)) (sym decided)

  -- the cells
  stored_by_lem : (r : Result Message) → ((m : Message) → r ≡ accepted m → fits_in requests m.kind (length (data_in x.block)) ≡ true) → (c : Cell)
      → cells (settings_by s (data_in x.block) r (and_then r (λ m. in_room x.room (answer s m.kind)))) c
      ≡ cond (stores (decision_of s x r) c) (given (decision_of s x r) c) (cells s c)
  stored_by_lem (refused n) fits c = refl
  stored_by_lem (accepted m) fits c =
      by_cases (ltb x.room (length (answer s m.kind)))
      (λ t. rw t)
      (λ f. rw f (stored-agree s (data_in x.block) m.kind (fits m refl) c))

  pub cells_are : (c : Cell) → cells (step s x) c ≡ next model (cells s) x c
  unfolding step result_of
  cells_are c =
      stored_by_lem (validate s x.block) (λ m e. (validated s x.block m e).fitting) c ∙
      ap (λ (d : Decision). cond (stores d c) (given d c) (cells s c)) (sym decided)

  -- the arrays keep their lengths
  lengths_by : (r : Result Message) (a : Result (List ℕ))
      → ((m : Message) → r ≡ accepted m → fits_in requests m.kind (length (data_in x.block)) ≡ true)
      → ArrayLengths (settings_by s (data_in x.block) r a)
  lengths_by (accepted m) (accepted packet) fits = lengths-kept s h (data_in x.block) m.kind (fits m refl)
  lengths_by (accepted m) (refused n) fits = h
  lengths_by (refused n) a fits = h

  pub lengths_are : ArrayLengths (step s x)
  unfolding step
  lengths_are = lengths_by (validate s x.block) (result_of s x) (λ m e. (validated s x.block m e).fitting)

-- settings are no more than their cells
pub cells-all : (s t : Settings) → ((c : Cell) → cells s c ≡ cells t c) → s ≡ t
cells-all s t same =
    let byte : s.channel ≡ t.channel = cc (same channel) in
    ap (λ (l : List ℕ). settings l s.long_address s.short_address s.channel) (same pan_id_cell) ∙
    ap (λ (l : List ℕ). settings t.pan_id l s.short_address s.channel) (same long_address_cell) ∙
    ap (λ (l : List ℕ). settings t.pan_id t.long_address l s.channel) (same short_address_cell) ∙
    ap (settings t.pan_id t.long_address t.short_address) byte

pub follows : Follows model machine
follows = record {
  admissible_kept = λ s x h. lengths_are s h x;
  cells_agree = λ s x h c. cells_are s h x c;
  result-agrees = λ s x h. result_is s h x;
  cells_are-all = λ s t h k same. cells-all s t same;
}
