-- The search answers the first place whose byte is a line feed, which is where the line ends, or that there is none.
use Rattle.std.proofs.Common.{◌≡◌, ℕ, List, Option, Some, None, length, unwrap_or, arith, sym, ◌∙◌}
use borrow.Author.Tests.{eqb-true, eq-eqb}
use Rattle.memchr.specs.Find.{IsFirstByte, is_byte}
use Rattle.hex_text.specs.Hex.{line_feed, index_of}
use Rattle.hex_text.proofs.Ends.{first-there, nowhere}
use Rattle.hex_text.proofs.find_line_feed.Goals as goal

first_or_end : (place : Option ℕ) (text : List ℕ) → IsFirstByte (is_byte line_feed) text place → unwrap_or place (length text) ≡ index_of line_feed text
first_or_end None text none = sym (nowhere text (λ j below is. none j (omega arith) below (eq-eqb _ _ is)))
first_or_end (Some k) text found =
    sym (first-there text k found.0.high (λ j below is. found.0.before j (omega arith) below (eq-eqb _ _ is)) (eqb-true _ _ found.1))

pub returns : goal.returns
returns c = c.unwrap_or.ensures ∙ first_or_end c.memchr.result c.args.text.now c.memchr.ensures
