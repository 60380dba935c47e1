-- The payload of a block that is read as a frame lies within the block.
-- Assumes nothing.
use Prim.Native.Nat.{ℕ, ◌+◌, ◌≤◌}
use mathlib.Core.Path.{◌≡◌, sym}
use mathlib.Core.List.{List}
use lib.ListN.{length}
use Rattle.refusal.specs.Refusal.{Result, accepted}
use Rattle.cdi_frame.specs.declared.Span.{Span}
use Rattle.cdi_frame.specs.Frame.{command_wake_limit, read_frame}
use Rattle.cdi_frame.proofs.Accepted.{payload-within}

pub payload_lies_within : (block : List ℕ) (s : Span) → ◌≡◌ {A = Result Span} (accepted s) (read_frame command_wake_limit block)
    → s.start + s.length ≤ length block
payload_lies_within block s e = payload-within command_wake_limit block s (sym e)
