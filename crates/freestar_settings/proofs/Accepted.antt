-- What is known of a message that is accepted, and that it is stored if its answer is written.
-- Assumes nothing.
use Prim.Native.Nat.{ℕ}
use mathlib.Core.Path.{◌≡◌, refl, sym, ap, subst, ◌∙◌}
use mathlib.Core.Bool.{true, ◌&&◌, and-eq-true_iff}
use mathlib.Core.List.{List}
use lib.Dec.{ltb}
use lib.ListN.{length}
use Rattle.logic.proofs.Choice.{by_cases}
use Rattle.refusal.specs.Refusal.{Result, accepted, refused, and_then}
use Rattle.refusal.specs.Numbers.{length_of}
use Rattle.refusal.proofs.Results.{never_both, else_refused}
use Rattle.freestar_packet.specs.declared.Message.{Message}
use Rattle.freestar_packet.specs.Layout.{requests, fits_in, pan_id_fits, pan_id_holds}
use Rattle.freestar_packet.specs.Read.{data_in, read_frame}
use Rattle.refusal.specs.Numbers.{in_room}
use Rattle.freestar_settings.specs.declared.Settings.{Settings}
use Rattle.freestar_settings.specs.Settings.{stored, validate_message, validate, settings_by}

pub record Valid (s : Settings) (block : List ℕ) (m : Message) : Type 0 where
  pub framed : read_frame block ≡ accepted m
  pub fitting : fits_in requests m.kind (length (data_in block)) ≡ true
  pub message-holds : pan_id_holds m.kind (data_in block) ≡ true
  pub settings_hold : pan_id_fits s.pan_id ≡ true

of_frame : (s : Settings) (block : List ℕ) (m : Message) (r : Result Message) → read_frame block ≡ r
    → and_then r (validate_message s (data_in block)) ≡ accepted m → Valid s block m
of_frame s block m (accepted x) e said =
    let a = else_refused (fits_in requests x.kind (length (data_in block))) _ _ m said in
    let b = else_refused (pan_id_holds x.kind (data_in block) && pan_id_fits s.pan_id) _ _ m a.1 in
    let same : x ≡ m = cc in
    let both = (and-eq-true_iff (pan_id_holds x.kind (data_in block)) (pan_id_fits s.pan_id)).0 b.0 in
    record {
      framed = e ∙ ap accepted same;
      fitting = subst (λ (y : Message). fits_in requests y.kind (length (data_in block)) ≡ true) same a.0;
      message-holds = subst (λ (y : Message). pan_id_holds y.kind (data_in block) ≡ true) same both.0;
      settings_hold = both.1;
    }
of_frame s block m (refused n) e said = never_both n m said

pub validated : (s : Settings) (block : List ℕ) (m : Message) → validate s block ≡ accepted m → Valid s block m
unfolding validate
validated s block m e = of_frame s block m (read_frame block) refl e

-- a message whose answer is written is stored
pub set_anew : (s : Settings) (bytes : List ℕ) (m : Message) (room n : ℕ) (packet : List ℕ) → accepted n ≡ length_of (in_room room packet)
    → settings_by s bytes (accepted m) (in_room room packet) ≡ stored s m.kind bytes
set_anew s bytes m room n packet e =
    by_cases (ltb room (length packet)) (λ t. never_both 13 n (sym (rw t at e))) (λ f. rw f)
