-- What a program does that is given its input in pieces and keeps no more of it than a line that is too long needs.
use Rattle.std.specs.Prelude.{ℕ, ◌+◌, List, [], ◌∷◌, ◌++◌, take}
use Rattle.hex_text.specs.Hex.{line_feed, line_max}
use Rattle.cdi_state.specs.declared.ModuleState.{ModuleState}
use Rattle.replay_text.specs.Replay.{lines, lines_text, lines_state}
use Rattle.replay_text.specs.Answered.{whole_part, unfinished}

-- the most characters that are kept of a line whose end is still to be read
abbrev pub kept_max : ℕ
kept_max = line_max + 1

-- what is kept of it: a line with one character too many stays too long whatever follows
abbrev pub kept_of : List ℕ → List ℕ
kept_of chars = take kept_max chars

-- the last line gets the line feed that it lacks; where nothing is kept there is no line
abbrev pub last_line : List ℕ → List ℕ
last_line [] = []
last_line (c ∷ line) = (c ∷ line) ++ line_feed ∷ []

-- what is printed for an input that comes in pieces: with each piece the whole lines are answered, and of the line that it leaves
-- unfinished no more is kept than has to be; where the input ends, that is the last line
unfoldable pub session : ModuleState → List ℕ → List (List ℕ) → List ℕ
session state kept [] = lines_text state (lines (last_line kept))
session state kept (piece ∷ pieces) =
    lines_text state (lines (whole_part (kept ++ piece))) ++
    session (lines_state state (lines (whole_part (kept ++ piece)))) (kept_of (unfinished (kept ++ piece))) pieces

-- the whole input of those pieces
unfoldable pub joined : List (List ℕ) → List ℕ
joined [] = []
joined (piece ∷ pieces) = piece ++ joined pieces
