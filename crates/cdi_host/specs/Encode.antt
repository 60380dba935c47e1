-- Document 01, "Command writer": the frame that the host writes for a payload.
use Rattle.std.specs.Prelude.{ℕ, ◌≡◌, List, cond, ltb}
use Rattle.refusal.specs.Refusal.{Result, accepted, refused, and_then, frame_buffer_short, wake_count_over}
use Rattle.cdi_frame.specs.Layout.{command_frame}
use Rattle.cdi_frame.specs.declared.Span.{Span}
use Rattle.cdi_frame.specs.Frame.{command_wake_limit, read_frame, payload_in}
use Rattle.cdi_command.specs.declared.Command.{Command}
use Rattle.cdi_command.specs.Command.{validate_payload}

-- the longest frame: 16 wake bytes, the three bytes around them and a payload of 8 bytes
abbrev pub frame_buffer_min : ℕ
frame_buffer_min = 27

-- refusals 13 and 14, then those of the payload as the module validates it
unfoldable pub encode_command : List ℕ → ℕ → ℕ → Result (List ℕ)
encode_command payload wakes room =
    cond (ltb room frame_buffer_min) (refused frame_buffer_short)
    (cond (ltb command_wake_limit wakes) (refused wake_count_over)
    (and_then (validate_payload payload) (λ _. accepted (command_frame wakes payload))))

-- the module reads the block as one frame with exactly this payload, and validates it to a command
pub record TakenAs (payload block : List ℕ) : Type 0 where
  pub span : Span
  pub read : read_frame command_wake_limit block ≡ accepted span
  pub same : payload_in block span ≡ payload
  pub command : Command
  pub validated : validate_payload (payload_in block span) ≡ accepted command
