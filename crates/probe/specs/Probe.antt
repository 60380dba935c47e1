-- The numbers that a C caller is given for the answers to a line. Each case has its own.
use Rattle.std.specs.Prelude.{ℕ, Result, Ok, Err}
use Rattle.hex_text.specs.declared.LineError.{LineError}
use Rattle.hex_text.specs.declared.LineError.TheVariants.{NotHex, NoRoom}
use Rattle.probe.specs.declared.LineProbe.{LineProbe}

-- the number of each answer to a line
abbrev pub block_answer : ℕ
block_answer = 0

abbrev pub not_hex_answer : ℕ
not_hex_answer = 1

abbrev pub no_room_answer : ℕ
no_room_answer = 2

-- the answer's number, the block's length where there is one, and the line's end
abbrev pub line_probe : Result ℕ LineError → ℕ → LineProbe
line_probe (Ok n) end = record { answer = block_answer; length = n; end = end }
line_probe (Err NotHex) end = record { answer = not_hex_answer; length = 0; end = end }
line_probe (Err NoRoom) end = record { answer = no_room_answer; length = 0; end = end }
