-- Its stores are the list's, one after the other, and the table has the digit of each number below 16.
use Rattle.std.proofs.Common.{◌/◌, ◌%◌, add-one, arith}
use native.Mathlib.Numerals.{add-two}
use Rattle.response_text.proofs.Digits.{digits_right}
use Rattle.response_text.proofs.write_pair.Goals as goal

pub returns : goal.returns
returns c = simp (digits_right (c.args.byte / 16) (omega arith), digits_right (c.args.byte % 16) (omega arith), add-one, add-two)
