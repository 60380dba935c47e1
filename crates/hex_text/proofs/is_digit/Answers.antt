-- The bit that it tests is set for the digits and for no other character of their range.
use Rattle.std.proofs.Common.{arith}
use Rattle.hex_text.proofs.Digits.{bits_right}
use Rattle.hex_text.proofs.is_digit.Goals as goal

pub returns : goal.returns
returns c = bits_right c.args.c (omega arith)
