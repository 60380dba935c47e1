-- What is told to C of a writer's answer is the outcome of what the definitions give.
-- Assumes nothing.
use Rattle.std.specs.Prelude.{ℕ, List, ◌≡◌, Ok, Err, refl}
use Rattle.std.specs.Prelude as std
use Rattle.refusal.specs.declared.Refusal.{Refusal}
use Rattle.refusal.specs.declared.Outcome.{Outcome}
use Rattle.refusal.specs.Refusal.{Result, accepted, refused, none, outcome, outcome_of}
use Rattle.refusal.specs.Numbers.{answer, length_of, outcome_from}

-- the outcome of a result of the definitions that has a length
abbrev told : Result ℕ → Outcome
told (accepted n) = outcome none n
told (refused n) = outcome n 0

told-answer : (r : std.Result ℕ Refusal) → outcome_from r ≡ told (answer r)
told-answer (Ok n) = refl
told-answer (Err e) = refl

told-length : (s : Result (List ℕ)) → told (length_of s) ≡ outcome_of s
told-length (accepted bytes) = refl
told-length (refused n) = refl

pub outcome_told : (r : std.Result ℕ Refusal) (s : Result (List ℕ)) → answer r ≡ length_of s → outcome_from r ≡ outcome_of s
outcome_told r s e = rw (told-answer r, e) (told-length s)
