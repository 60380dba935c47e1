-- A step is accepted exactly where the number in its result is 0.
-- Assumes nothing.
use Prim.Native.Nat.{ℕ}
use mathlib.Core.Path.{◌≡◌, refl, sym, subst, ◌∙◌}
use mathlib.Core.Bool.{true, false, true≢false}
use mathlib.Core.List.{List}
use borrow.Author.Tests.{eqb-true}
use lib.Dec.{eqb, ltb}
use lib.ListN.{length}
use Rattle.logic.proofs.Choice.{choice, by_cases}
use Rattle.refusal.specs.Refusal.{Result, accepted, refused, none}
use Rattle.refusal.proofs.Results.{among}
use Rattle.cdi_frame.specs.declared.Span.{Span}
use Rattle.cdi_frame.specs.Frame.{command_wake_limit, read_frame, payload_in}
use Rattle.cdi_frame.proofs.Refusals.{frame_refusals, frame-refusal}
use Rattle.cdi_command.specs.Payload.{response_buffer_min}
use Rattle.cdi_command.specs.declared.Command.{Command}
use Rattle.cdi_command.specs.Command.{validate_payload}
use Rattle.cdi_command.proofs.Refusals.{payload_refusals, payload-refusal}
use Rattle.cdi_model.specs.Step.{Step, power_up, command}
use Rattle.cdi_model.specs.Table.{Decision, is_accepted}
use Rattle.cdi_model.specs.Model.{Cells, is_valid, refusal_by, decide_command, decide_payload, decide_frame, decide_block, decide}

abbrev Told : Decision → Type 0
Told d = is_accepted d ≡ eqb (refusal_by d) none

-- a number of a list that lacks 0 is not 0
not_none : (ms : List ℕ) (n : ℕ) → among ms none ≡ false → among ms n ≡ true → eqb n none ≡ false
not_none ms n without listed =
    by_cases (eqb n none)
    (λ e. absurd (true≢false (sym (subst (λ (m : ℕ). among ms m ≡ true) (eqb-true n none e) listed) ∙ without)))
    (λ e. e)

payload-told : (payload : List ℕ) (r : Result Command) → validate_payload payload ≡ r → Told (decide_command payload r)
payload-told payload (accepted c) e = refl
payload-told payload (refused n) e = sym (not_none payload_refusals n refl (payload-refusal payload n e))

frame-told : (block : List ℕ) (f : Result Span) → read_frame command_wake_limit block ≡ f → Told (decide_frame block f)
unfolding decide_payload
frame-told block (accepted span) e = payload-told (payload_in block span) (validate_payload (payload_in block span)) refl
frame-told block (refused n) e = sym (not_none frame_refusals n refl (frame-refusal command_wake_limit block n e))

pub accepted_is_none : (s : Cells) (x : Step) → is_accepted (decide s x) ≡ eqb (refusal_by (decide s x)) none
unfolding decide decide_block
accepted_is_none s power_up = choice Told (is_valid s) (λ _. refl) (λ _. refl)
accepted_is_none s (command r) =
    choice Told (ltb (length r.response) response_buffer_min) (λ _. refl)
    (λ _. choice Told (is_valid s) (λ _. frame-told r.block (read_frame command_wake_limit r.block) refl) (λ _. refl))
