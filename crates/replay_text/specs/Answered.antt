-- The lines of a part of an input that are answered: whole ones, as many as there is room for in a buffer.
use Rattle.std.specs.Prelude.{ℕ, ◌-◌, ◌*◌, Bool, cond, List, [], ◌∷◌, ◌++◌, eqb, leb, length}
use Rattle.logic.specs.Lists.{any}
use Rattle.hex_text.specs.Hex.{hex_line, line_feed}
use Rattle.response_text.specs.Text.{printed}
use Rattle.cdi_command.specs.Payload.{response_buffer_min}
use Rattle.cdi_state.specs.declared.ModuleState.{ModuleState}
use Rattle.replay_text.specs.Replay.{lines, line_text, line_state}

-- ---- whole lines
abbrev pub has_line_feed : List ℕ → Bool
has_line_feed chars = any (λ c. eqb c line_feed) chars

-- the characters as far as the last line feed, that included, ...
unfoldable pub whole_part : List ℕ → List ℕ
whole_part [] = []
whole_part (c ∷ chars) = cond (has_line_feed (c ∷ chars)) (c ∷ whole_part chars) []

-- ... and those behind it: a line whose end is still to come
unfoldable pub unfinished : List ℕ → List ℕ
unfinished [] = []
unfinished (c ∷ chars) = cond (has_line_feed (c ∷ chars)) (unfinished chars) (c ∷ chars)

-- lines as characters, each with its line feed
unfoldable pub with_line_feeds : List (List ℕ) → List ℕ
with_line_feeds [] = []
with_line_feeds (line ∷ rest) = line ++ line_feed ∷ with_line_feeds rest

-- ---- what is answered
-- the most characters of a line that is printed, with its line feed: three for each byte of the longest response
abbrev pub printed_max : ℕ
printed_max = 3 * response_buffer_min

-- the lines, from the first on, that are answered in a buffer with `room` bytes: one more as long as there is room for any line
unfoldable pub fitting : ModuleState → ℕ → List (List ℕ) → List (List ℕ)
fitting state room [] = []
fitting state room (line ∷ rest) =
    cond (leb printed_max room)
    (line ∷ fitting (line_state state (hex_line line)) (room - length (printed (line_text state (hex_line line)))) rest)
    []

-- of an input its whole lines, as many as fit
abbrev pub answered : ModuleState → List ℕ → ℕ → List (List ℕ)
answered state input room = fitting state room (lines (whole_part input))
