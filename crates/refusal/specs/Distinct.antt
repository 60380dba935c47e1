-- No two refusals have one number: the number tells which refusal it is.
use Rattle.std.specs.Prelude.{ℕ, ◌≡◌, refl, eqb, cond}
use Rattle.std.proofs.Common.{sym, ap, ◌∙◌}
use Rattle.refusal.specs.declared.Refusal.{Refusal}
use Rattle.refusal.specs.declared.Refusal.TheVariants as case
use Rattle.refusal.specs.Numbers.{number_of}

-- the refusal that has a number, and some refusal for a number that none has
abbrev pub numbered : ℕ → Refusal
numbered n =
    cond (eqb n 1) case.ResponseBufferShort (
    cond (eqb n 2) case.Invalid (
    cond (eqb n 3) case.EndsEarly (
    cond (eqb n 4) case.BadStart (
    cond (eqb n 5) case.BadLengthByte (
    cond (eqb n 6) case.TrailingBytes (
    cond (eqb n 7) case.CommandNotServed (
    cond (eqb n 8) case.WrongLength (
    cond (eqb n 9) case.ItemNotServed (
    cond (eqb n 10) case.NotPermitted (
    cond (eqb n 11) case.WrongIndex (
    cond (eqb n 12) case.ValueNotAccepted (
    cond (eqb n 13) case.FrameBufferShort (
    cond (eqb n 14) case.WakeCountOver (
    cond (eqb n 15) case.ReadingCount (
    cond (eqb n 16) case.ReadingOver (
    cond (eqb n 17) case.ImageLength (
    cond (eqb n 18) case.ImageMark (
    cond (eqb n 19) case.ImageVersion (
    cond (eqb n 23) case.NoSuchResponse (
    cond (eqb n 24) case.PacketEnds (
    cond (eqb n 25) case.PacketLength (
    cond (eqb n 26) case.PacketSum (
    cond (eqb n 27) case.PacketContent (
    case.PanIdOver))))))))))))))))))))))))

pub numbered-number : (e : Refusal) → numbered (number_of e) ≡ e
numbered-number case.ResponseBufferShort = refl
numbered-number case.Invalid = refl
numbered-number case.EndsEarly = refl
numbered-number case.BadStart = refl
numbered-number case.BadLengthByte = refl
numbered-number case.TrailingBytes = refl
numbered-number case.CommandNotServed = refl
numbered-number case.WrongLength = refl
numbered-number case.ItemNotServed = refl
numbered-number case.NotPermitted = refl
numbered-number case.WrongIndex = refl
numbered-number case.ValueNotAccepted = refl
numbered-number case.FrameBufferShort = refl
numbered-number case.WakeCountOver = refl
numbered-number case.ReadingCount = refl
numbered-number case.ReadingOver = refl
numbered-number case.ImageLength = refl
numbered-number case.ImageMark = refl
numbered-number case.ImageVersion = refl
numbered-number case.NoSuchResponse = refl
numbered-number case.PacketEnds = refl
numbered-number case.PacketLength = refl
numbered-number case.PacketSum = refl
numbered-number case.PacketContent = refl
numbered-number case.PanIdOver = refl

pub number_determined : (d e : Refusal) → number_of d ≡ number_of e → d ≡ e
number_determined d e same = sym (numbered-number d) ∙ ap numbered same ∙ numbered-number e
