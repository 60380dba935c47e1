-- What `replay_lines` does with a part of an input and a buffer: for one line, and for all that are answered.
use Rattle.std.specs.Prelude.{ℕ, ◌<◌, ◌≤◌, ◌≡◌, Bool, Option, Some, None, Ok, Err, List, length, take, replicate}
use Rattle.std.specs.Prelude as std
use Rattle.logic.specs.Written.{written}
use Rattle.hex_text.specs.Hex.{Line, block, not_hex}
use Rattle.hex_text.specs.declared.LineError.{LineError}
use Rattle.response_text.specs.Text.{not_hex_text, printed}
use Rattle.refusal.specs.declared.Refusal.{Refusal}
use Rattle.refusal.specs.Refusal.{Result}
use Rattle.refusal.specs.Numbers.{answer}
use Rattle.cdi_command.specs.declared.Command.{Command}
use Rattle.cdi_command.specs.Payload.{response_buffer_min}
use Rattle.cdi_state.specs.declared.ModuleState.{ModuleState}
use Rattle.cdi_module.specs.Module.{Decision, decided, decide_given, responded_to}
use Rattle.replay_text.specs.Replay.{result_text, lines_text, lines_state}
use Rattle.replay_text.specs.Answered.{printed_max, with_line_feeds}
use Rattle.replay_lines.specs.declared.Progress.{Progress}

-- the most bytes of a line's block
abbrev pub block_max : ℕ
block_max = 200

-- the line that a reader's answer tells of, its bytes at the front of a buffer; 200 bytes have room for every block
abbrev pub line_read : std.Result ℕ LineError → List ℕ → Line
line_read (Ok n) buffer = block (take n buffer)
line_read (Err why) buffer = not_hex

-- those bytes lie within the buffer
abbrev pub ReadWithin : std.Result ℕ LineError → ℕ → Type 0
ReadWithin (Ok n) size = n ≤ size
ReadWithin (Err why) size = Unit {0}

-- a response is not empty, and lies within its buffer
abbrev pub ResponseWithin : std.Result ℕ Refusal → ℕ → Type 0
ResponseWithin (Ok n) size = (0 < n) × (n ≤ size)
ResponseWithin (Err why) size = Unit {0}

-- a line printed over the front of a buffer, and how many characters that is
pub record Prints (text before after : List ℕ) (count : ℕ) : Type 0 where
  pub counted : count ≡ length (printed text)
  pub placed : after ≡ written before (printed text)
  pub few : count ≤ printed_max

-- what is decided on a line: one that is not hex is no step, so nothing is decided
abbrev pub line_decision : (valid : Bool) → Line → Option Decision
line_decision valid (block bytes) = Some (decide_given valid response_buffer_min bytes)
line_decision valid not_hex = None

-- what the source decided
abbrev pub decision_of : Option (std.Result Command Refusal) → Option Decision
decision_of (Some d) = Some (decided (answer d))
decision_of None = None

-- the text of what was decided on a block, ...
abbrev pub decision_text : ModuleState → Result Command → List ℕ
decision_text s r = result_text (responded_to s r (replicate response_buffer_min 0))

-- ... and on a line
abbrev pub answer_text : ModuleState → Option (std.Result Command Refusal) → List ℕ
answer_text s (Some d) = decision_text s (answer d)
answer_text s None = not_hex_text

-- what came of some lines: the state after them, how many characters they are, and how many are printed
abbrev pub progress : ModuleState → List (List ℕ) → Progress
progress s answeredLines = record {
  state = lines_state s answeredLines;
  consumed = length (with_line_feeds answeredLines);
  written = length (lines_text s answeredLines);
}
