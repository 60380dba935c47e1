-- What the module responds in a valid state: the head of a response and the value that it reads.
-- Assumes nothing.
use Prim.Native.Nat.{ℕ, ◌≤◌}
use mathlib.Core.Path.{◌≡◌, refl, sym, ap, ◌∙◌, subst}
use mathlib.Core.Bool.{true, false}
use mathlib.Core.List.{List, [], ◌++◌, append-nil}
use native.Mathlib.Omega.{arith}
use borrow.Author.Tests.{le-ltb}
use lib.ListN.{length, take, drop, replicate}
use Rattle.logic.specs.Written.{written}
use Rattle.logic.proofs.Written.{written-front}
use Rattle.refusal.specs.Refusal.{accepted, none}
use Rattle.cdi_frame.specs.Layout.{command_frame, response_frame}
use Rattle.cdi_frame.specs.Frame.{command_wake_limit}
use Rattle.cdi_frame.proofs.ReadBack.{command-read-back, payload-written}
use Rattle.cdi_command.specs.declared.Command.{Command}
use Rattle.cdi_command.specs.declared.Command.TheVariants.{Read, ReadIndexed, ReadNv, ReadNvIndexed, Write, WriteIndexed, Program, ProgramIndexed, SetDefault, EraseAll}
use Rattle.cdi_command.specs.Command.{validate_payload}
use Rattle.cdi_command.specs.Payload.{command_payload, response_payload, response_buffer_min}
use Rattle.cdi_command.specs.Kind.{is_read}
use Rattle.cdi_command.proofs.Accepted.{accepted-bounds}
use Rattle.cdi_decode.specs.Follow.{head_of}
use Rattle.cdi_state.specs.declared.ModuleState.{ModuleState}
use Rattle.cdi_valid.specs.Valid.{is_valid}
use Rattle.cdi_value.specs.Value.{value_read}
use Rattle.cdi_value.proofs.Values.{none_read}
use Rattle.cdi_model.specs.Step.{StepResult, powered_up, responded, request, command}
use Rattle.cdi_module.specs.Module.{command_in, decide, result_of}
use Rattle.cdi_responses.specs.Theorem.{RespondsIn, Responds}

-- a response's payload is its head and the value
with_value : (c : Command) (v : List ℕ) → (is_read c ≡ false → v ≡ []) → response_payload (command_payload c) v ≡ head_of c ++ v
with_value (Read x) v e = refl
with_value (ReadIndexed x i) v e = refl
with_value (ReadNv x) v e = refl
with_value (ReadNvIndexed x i) v e = refl
with_value (Write x w) v e = rw (e refl) (sym (append-nil (head_of (Write x w))))
with_value (WriteIndexed x i w) v e = rw (e refl) (sym (append-nil (head_of (WriteIndexed x i w))))
with_value (Program x w) v e = rw (e refl) (sym (append-nil (head_of (Program x w))))
with_value (ProgramIndexed x i w) v e = rw (e refl) (sym (append-nil (head_of (ProgramIndexed x i w))))
with_value SetDefault v e = rw (e refl) refl
with_value EraseAll v e = rw (e refl) refl

-- no two results of responses are the same
abbrev lengths : StepResult → ℕ
lengths (powered_up n) = 0
lengths (responded n l after) = l

abbrev afterwards : StepResult → List ℕ
afterwards (powered_up n) = []
afterwards (responded n l after) = after

same_frames : (buffer p q : List ℕ) → responded none (length p) (written buffer p) ≡ responded none (length q) (written buffer q) → p ≡ q
same_frames buffer p q e =
    sym (written-front buffer p) ∙ ap (λ (r : StepResult). take (lengths r) (afterwards r)) e ∙ written-front buffer q

module _ (s : ModuleState) (v : is_valid s ≡ true) (sent : List ℕ) (c : Command) (is : validate_payload sent ≡ accepted c) where
  -- the payload that it responds with
  abbrev pub response_payload_of : List ℕ
  response_payload_of = head_of c ++ value_read s c

  payload_is : response_payload (command_payload c) (value_read s c) ≡ response_payload_of
  payload_is = with_value c (value_read s c) (none_read s c)

  -- to a block that has the command
  pub responds_to : (block buffer : List ℕ) → command_in block ≡ accepted c → response_buffer_min ≤ length buffer
      → result_of s (command (request block buffer)) ≡ responded none (length (response_frame response_payload_of)) (written buffer (response_frame response_payload_of))
  unfolding result_of decide
  responds_to block buffer e room = rw (← payload_is, le-ltb (length buffer) response_buffer_min room, v, e) refl

  framed : (wakes : ℕ) → wakes ≤ command_wake_limit → command_in (command_frame wakes sent) ≡ accepted c
  unfolding command_in
  framed wakes few = rw (command-read-back wakes sent few (accepted-bounds sent c is).0, payload-written wakes sent) is

  pub responds_so : Responds s sent response_payload_of
  responds_so wakes buffer few room = responds_to (command_frame wakes sent) buffer (framed wakes few) room

  -- and no other; one exchange tells
  pub only_so : (wakes : ℕ) (buffer p : List ℕ) → wakes ≤ command_wake_limit → response_buffer_min ≤ length buffer → RespondsIn wakes buffer s sent p → p ≡ response_payload_of
  only_so wakes buffer p few room e =
      ap (drop 3) (same_frames buffer (response_frame p) (response_frame response_payload_of) (sym e ∙ responds_so wakes buffer few room))

  pub responds_only : (p : List ℕ) → Responds s sent p → p ≡ response_payload_of
  responds_only p r = only_so 0 (replicate response_buffer_min 0) p (omega arith) (omega arith) (r 0 (replicate response_buffer_min 0) (omega arith) (omega arith))

  -- so what it responds once, it responds always
  pub one-exchange : (wakes : ℕ) (buffer p : List ℕ) → wakes ≤ command_wake_limit → response_buffer_min ≤ length buffer → RespondsIn wakes buffer s sent p → Responds s sent p
  one-exchange wakes buffer p few room e = subst (Responds s sent) (sym (only_so wakes buffer p few room e)) responds_so
