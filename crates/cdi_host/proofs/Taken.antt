-- What the writer writes, the module takes as exactly that payload, and it fits the buffer.
-- Assumes nothing.
use Prim.Native.Nat.{ℕ, ◌≤◌}
use mathlib.Core.Path.{◌≡◌, refl, ap, ◌∙◌}
use mathlib.Core.List.{List}
use native.Mathlib.Omega.{arith}
use borrow.Author.Tests.{ltb-false}
use lib.Dec.{ltb}
use lib.ListN.{length, take}
use Rattle.logic.proofs.Written.{written-front}
use Rattle.refusal.specs.Refusal.{Result, accepted, refused, and_then, outcome_of, buffer_after}
use Rattle.refusal.proofs.Results.{then-refused, never_both}
use Rattle.cdi_frame.specs.Layout.{command_frame}
use Rattle.cdi_frame.specs.Frame.{command_wake_limit}
use Rattle.cdi_frame.proofs.ReadBack.{span_of, frame-length, payload-written, command-read-back}
use Rattle.cdi_command.specs.declared.Command.{Command}
use Rattle.cdi_command.specs.Command.{validate_payload}
use Rattle.cdi_command.proofs.Accepted.{accepted-bounds}
use Rattle.cdi_host.specs.Encode.{frame_buffer_min, encode_command, TakenAs}

module _ (p : List ℕ) (k room : ℕ) (f : List ℕ) where
  -- the tests that an accepted call has passed
  record Passed : Type 0 where
    pub roomy : frame_buffer_min ≤ room
    pub few : k ≤ command_wake_limit
    pub command : Command
    pub valid : validate_payload p ≡ accepted command
    pub frame : command_frame k p ≡ f

  passed : encode_command p k room ≡ accepted f → Passed
  unfolding encode_command
  passed e =
      let a = then-refused (ltb room frame_buffer_min) _ _ f e in
      let b = then-refused (ltb command_wake_limit k) _ _ f a.1 in
      validated (validate_payload p) refl b.1 (ltb-false room frame_buffer_min a.0) (ltb-false command_wake_limit k b.0)
    where
      validated : (r : Result Command) → validate_payload p ≡ r → and_then r (λ _. accepted (command_frame k p)) ≡ accepted f → frame_buffer_min ≤ room → k ≤ command_wake_limit → Passed
      validated (accepted c) v e h w = record { roomy = h; few = w; command = c; valid = v; frame = cc }
      validated (refused n) v e h w = never_both n f e

  pub encoded_taken : encode_command p k room ≡ accepted f → TakenAs p f
  encoded_taken e =
      let t = passed e in
      let size = accepted-bounds p t.command t.valid in
      rw (← t.frame) (record {
        span = span_of k p;
        read = command-read-back k p t.few size.0;
        same = payload-written k p;
        command = t.command;
        validated = ap validate_payload (payload-written k p) ∙ t.valid;
      })

  pub encoded_fits : encode_command p k room ≡ accepted f → length f ≤ room
  encoded_fits e =
      let t = passed e in
      let size = accepted-bounds p t.command t.valid in
      rw (← t.frame) (omega (arith, frame-length k p))

  -- the same of the caller's buffer: the module takes its first bytes, as many as the outcome says, as that payload
  pub encoded_in_buffer : encode_command p k room ≡ accepted f → (buffer : List ℕ)
      → TakenAs p (take (outcome_of (encode_command p k room)).length (buffer_after (encode_command p k room) buffer))
  encoded_in_buffer e buffer = rw (e, written-front buffer f) (encoded_taken e)
