-- What an answer tells by the number of its refusal is what it tells where the refusal is a case of the source.
-- Assumes nothing.
use Rattle.std.specs.Prelude.{ℕ, ◌≡◌, refl}
use Rattle.std.specs.Prelude as std
use Rattle.refusal.specs.declared.Refusal.{Refusal}
use Rattle.refusal.specs.Numbers.{number_of, answer, answer_by, outcome_from, outcome_by}

pub answer_numbered : {A : Type 0} (r : std.Result A Refusal) → answer_by number_of r ≡ answer r
answer_numbered r = refl

pub outcome_numbered : (r : std.Result ℕ Refusal) → outcome_by number_of r ≡ outcome_from r
outcome_numbered r = refl
