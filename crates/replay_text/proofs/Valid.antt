-- A line leaves the lengths of a state's arrays, and whether the state is valid.
-- Assumes nothing.
use mathlib.Core.Path.{◌≡◌, refl}
use Rattle.hex_text.specs.Hex.{Line, block, not_hex}
use Rattle.cdi_state.specs.declared.ModuleState.{ModuleState}
use Rattle.cdi_state.specs.State.{ArrayLengths}
use Rattle.cdi_valid.specs.Valid.{is_valid}
use Rattle.cdi_module.proofs.Follows.{follows}
use Rattle.cdi_module.proofs.Theorem.{validity_kept}
use Rattle.replay_text.specs.Replay.{block_step, line_state}

pub line-lengths : (s : ModuleState) (line : Line) → ArrayLengths s → ArrayLengths (line_state s line)
line-lengths s not_hex h = h
line-lengths s (block bytes) h = follows.admissible_kept s (block_step bytes) h

pub line-valid : (s : ModuleState) (line : Line) → ArrayLengths s → is_valid (line_state s line) ≡ is_valid s
line-valid s not_hex h = refl
line-valid s (block bytes) h = validity_kept s (block_step bytes) h
