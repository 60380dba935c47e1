-- How many bytes a writer writes, as the number that C is given: 0 where there is no room.
-- Assumes nothing.
use Rattle.std.proofs.Common.{◌≡◌, ℕ, List, Option, unwrap_or, length, leb, ap, ◌∙◌}
use Rattle.logic.specs.Written.{length_in}
use Rattle.logic.proofs.Choice.{by_cases}
use Rattle.response_text.specs.Text.{count_in}

pub counted : (buffer line : List ℕ) (written : Option ℕ) (number : ℕ) → written ≡ count_in buffer line → number ≡ unwrap_or written 0 → number ≡ length_in buffer line
counted buffer line written number is given =
    given ∙ ap (λ (w : Option ℕ). unwrap_or w 0) is ∙ by_cases (leb (length line) (length buffer)) (λ t. simp t) (λ f. simp f)
