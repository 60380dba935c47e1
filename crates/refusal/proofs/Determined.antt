-- An answer of the source is determined by its result, and by what C is told of it: no two refusals have one number, and none has 0.
-- Assumes nothing.
use Rattle.std.specs.Prelude.{◌≡◌, Ok, Err, refl}
use Rattle.std.specs.Prelude as std
use native.Mathlib.Omega.{arith}
use Rattle.refusal.specs.declared.Refusal.{Refusal}
use Rattle.refusal.specs.declared.Refusal.TheVariants as case
use Rattle.refusal.specs.Refusal.{Result, accepted, refused, none}
use Rattle.refusal.specs.Numbers.{number_of, answer}
use Rattle.refusal.specs.Distinct.{numbered, numbered-number}

-- no refusal has the number that says that nothing is refused
pub never_none : (e : Refusal) → number_of e ≡ none → ⊥
never_none case.ResponseBufferShort h = omega (arith, h)
never_none case.Invalid h = omega (arith, h)
never_none case.EndsEarly h = omega (arith, h)
never_none case.BadStart h = omega (arith, h)
never_none case.BadLengthByte h = omega (arith, h)
never_none case.TrailingBytes h = omega (arith, h)
never_none case.CommandNotServed h = omega (arith, h)
never_none case.WrongLength h = omega (arith, h)
never_none case.ItemNotServed h = omega (arith, h)
never_none case.NotPermitted h = omega (arith, h)
never_none case.WrongIndex h = omega (arith, h)
never_none case.ValueNotAccepted h = omega (arith, h)
never_none case.FrameBufferShort h = omega (arith, h)
never_none case.WakeCountOver h = omega (arith, h)
never_none case.ReadingCount h = omega (arith, h)
never_none case.ReadingOver h = omega (arith, h)
never_none case.ImageLength h = omega (arith, h)
never_none case.ImageMark h = omega (arith, h)
never_none case.ImageVersion h = omega (arith, h)
never_none case.NoSuchResponse h = omega (arith, h)
never_none case.PacketEnds h = omega (arith, h)
never_none case.PacketLength h = omega (arith, h)
never_none case.PacketSum h = omega (arith, h)
never_none case.PacketContent h = omega (arith, h)
never_none case.PanIdOver h = omega (arith, h)

module _ {A : Type 0} where
  -- the answer that has a result
  abbrev answered : Result A → std.Result A Refusal
  answered (accepted x) = Ok x
  answered (refused n) = Err (numbered n)

  answered-answer : (r : std.Result A Refusal) → answered (answer r) ≡ r
  answered-answer (Ok x) = refl
  answered-answer (Err e) = rw (numbered-number e) refl

  pub answer_determined : (r s : std.Result A Refusal) → answer r ≡ answer s → r ≡ s
  answer_determined r s e =
      let p : answered (answer r) ≡ answered (answer s) = rw e refl in
      let q = rw (answered-answer r) at p in
      rw (answered-answer s) at q
