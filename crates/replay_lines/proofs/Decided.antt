-- What was decided on a line, once it is printed and stored, is the line's text and the state after it.
-- Assumes nothing.
use mathlib.Core.Path.{◌≡◌, refl, ap}
use lib.ListN.{replicate}
use Rattle.std.proofs.Common.{Option, Some, None}
use Rattle.std.specs.Prelude as std
use Rattle.hex_text.specs.Hex.{Line, block, not_hex}
use Rattle.refusal.specs.declared.Refusal.{Refusal}
use Rattle.refusal.specs.Numbers.{answer}
use Rattle.cdi_command.specs.declared.Command.{Command}
use Rattle.cdi_command.specs.Payload.{response_buffer_min}
use Rattle.cdi_state.specs.declared.ModuleState.{ModuleState}
use Rattle.cdi_valid.specs.Valid.{is_valid}
use Rattle.cdi_store.specs.Store.{state_for}
use Rattle.cdi_module.specs.Module.{decided, decide_given}
use Rattle.cdi_module.proofs.Decided.{executed_state, executed_result}
use Rattle.replay_text.specs.Replay.{result_text, line_text, line_state}
use Rattle.replay_lines.specs.Progress.{line_decision, decision_of, answer_text}

-- the state after what was decided is stored
abbrev pub state_of : ModuleState → Option (std.Result Command Refusal) → ModuleState
state_of s (Some d) = state_for s (answer d)
state_of s None = s

module _ (s : ModuleState) where
  pub line-text : (d : Option (std.Result Command Refusal)) (line : Line) → decision_of d ≡ line_decision (is_valid s) line → answer_text s d ≡ line_text s line
  line-text (Some d) (block bytes) is =
      let same : decided (answer d) ≡ decide_given (is_valid s) response_buffer_min bytes = cc in
      ap result_text (executed_result s bytes (replicate response_buffer_min 0) (answer d) same)
  line-text (Some d) not_hex is = cc
  line-text None (block bytes) is = cc
  line-text None not_hex is = refl

  pub line-stored : (d : Option (std.Result Command Refusal)) (line : Line) → decision_of d ≡ line_decision (is_valid s) line → state_of s d ≡ line_state s line
  line-stored (Some d) (block bytes) is =
      let same : decided (answer d) ≡ decide_given (is_valid s) response_buffer_min bytes = cc in
      executed_state s bytes (replicate response_buffer_min 0) (answer d) same
  line-stored (Some d) not_hex is = cc
  line-stored None (block bytes) is = cc
  line-stored None not_hex is = refl
