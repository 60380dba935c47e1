-- What is printed for a line fits into the room that is kept for it.
-- Assumes nothing.
use Prim.Native.Nat.{ℕ, ◌<◌, ◌≤◌}
use mathlib.Core.Path.{◌≡◌, refl, ap, ◌∙◌}
use mathlib.Core.Bool.{true}
use mathlib.Core.List.{List}
use native.Mathlib.Omega.{arith}
use borrow.Author.Tests.{le-leb, le-ltb, ltb-true}
use lib.Dec.{ltb}
use lib.ListN.{length, take}
use lib.Seq.{length-take-le}
use Rattle.std.proofs.Common.{Option, Ok, Err}
use Rattle.std.specs.Prelude as std
use Rattle.std.specs.Option.{IsSomeAnd}
use Rattle.logic.specs.Written.{written_in}
use Rattle.response_text.specs.Text.{text_in_hex, printed, count_in}
use Rattle.response_text.proofs.Text.{text_in_hex-length}
use Rattle.refusal.specs.declared.Refusal.{Refusal}
use Rattle.refusal.specs.declared.Refusal.TheVariants as case
use Rattle.refusal.specs.Numbers.{number_of, answer}
use Rattle.cdi_command.specs.declared.Command.{Command}
use Rattle.cdi_command.specs.Payload.{response_buffer_min}
use Rattle.cdi_state.specs.declared.ModuleState.{ModuleState}
use Rattle.cdi_model.specs.Step.{StepResult, powered_up, responded}
use Rattle.cdi_module.specs.Module.{responded_to, response_to, told}
use Rattle.cdi_module.proofs.Within.{response-within}
use Rattle.replay_text.specs.Answered.{printed_max}
use Rattle.replay_lines.specs.Progress.{Prints, ResponseWithin}

-- a line that is short enough is written where there is room for the longest
pub prints : (text before after : List ℕ) (written : Option ℕ) → length (printed text) ≤ printed_max → printed_max ≤ length before
    → written ≡ count_in before (printed text) → after ≡ written_in before (printed text) → IsSomeAnd written (Prints text before after)
prints text before after written short room counted placed =
    let fits = le-leb (length (printed text)) (length before) (omega arith) in
    rw (counted, fits) (record { counted = refl; placed = placed ∙ simp fits; few = short })

-- the longest response fills the room
pub response-short : (response : List ℕ) (n : ℕ) → 0 < n → n ≤ length response → n ≤ response_buffer_min
    → length (printed (text_in_hex (take n response))) ≤ printed_max
response-short response n some within few =
    let taken = length-take-le n response within in
    omega (arith, text_in_hex-length (take n response) (omega arith))

-- ---- a response is not empty
-- no refusal has the number 0
numbered : (e : Refusal) → ltb 0 (number_of e) ≡ true
numbered case.ResponseBufferShort = refl
numbered case.Invalid = refl
numbered case.EndsEarly = refl
numbered case.BadStart = refl
numbered case.BadLengthByte = refl
numbered case.TrailingBytes = refl
numbered case.CommandNotServed = refl
numbered case.WrongLength = refl
numbered case.ItemNotServed = refl
numbered case.NotPermitted = refl
numbered case.WrongIndex = refl
numbered case.ValueNotAccepted = refl
numbered case.FrameBufferShort = refl
numbered case.WakeCountOver = refl
numbered case.ReadingCount = refl
numbered case.ReadingOver = refl
numbered case.ImageLength = refl
numbered case.ImageMark = refl
numbered case.ImageVersion = refl
numbered case.NoSuchResponse = refl
numbered case.PacketEnds = refl
numbered case.PacketLength = refl
numbered case.PacketSum = refl
numbered case.PacketContent = refl
numbered case.PanIdOver = refl

refusal_in : StepResult → ℕ
refusal_in (powered_up n) = n
refusal_in (responded n l response) = n

length_in : StepResult → ℕ
length_in (powered_up n) = 0
length_in (responded n l response) = l

module _ (s : ModuleState) (before after : List ℕ) (room : response_buffer_min ≤ length before) where
  pub response-held : (d : std.Result Command Refusal) (outcome : std.Result ℕ Refusal) → told outcome after ≡ responded_to s (answer d) before
      → ResponseWithin outcome (length after)
  unfolding refusal_in length_in
  response-held d (Err e) is = tt
  response-held (Ok c) (Ok n) is =
      let size : n ≡ length (response_to s c) = ap length_in is ∙ simp (le-ltb (length before) response_buffer_min room) in
      (omega arith, response-within s (answer (Ok c)) before after _ n is)
  response-held (Err e) (Ok n) is =
      let none : 0 ≡ number_of e = ap refusal_in is ∙ simp (le-ltb (length before) response_buffer_min room) in
      absurd (omega (arith, ltb-true 0 (number_of e) (numbered e)))
