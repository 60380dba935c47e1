-- The theorem on the reader for blocks, and the way from the host to the module and back.
-- Assumes nothing.
use Prim.Native.Nat.{ℕ, ◌+◌, ◌-◌, ◌≤◌}
use mathlib.Core.Path.{◌≡◌, refl, sym, ap, ◌∙◌, subst}
use mathlib.Core.List.{List, ◌++◌}
use native.Mathlib.Omega.{arith}
use lib.ListN.{length, take, drop, length-append}
use lib.Seq.{drop-drop}
use Rattle.logic.specs.Lists.{part, Bytes}
use Rattle.logic.specs.Written.{written}
use Rattle.logic.proofs.Bytes.{bytes_take, bytes_drop}
use Rattle.logic.proofs.Written.{written-front}
use Rattle.refusal.specs.Refusal.{Result, accepted, refused, and_then}
use Rattle.refusal.proofs.Results.{never_both}
use Rattle.cdi_frame.specs.declared.Span.{Span}
use Rattle.cdi_frame.specs.Layout.{command_frame, response_frame}
use Rattle.cdi_frame.specs.Frame.{read_frame, payload_in}
use Rattle.cdi_frame.proofs.Accepted.{accepted_is_written}
use Rattle.cdi_frame.proofs.ReadBack.{payload-written, response-read-back}
use Rattle.cdi_command.specs.declared.Command.{Command}
use Rattle.cdi_command.specs.declared.Command.TheVariants.{Read as ReadPlain, ReadIndexed, ReadNv, ReadNvIndexed, Write, WriteIndexed, Program, ProgramIndexed, SetDefault, EraseAll}
use Rattle.cdi_command.specs.Command.{validate_payload}
use Rattle.cdi_command.specs.Payload.{response_buffer_min}
use Rattle.cdi_host.specs.Encode.{TakenAs}
use Rattle.cdi_host.proofs.Taken.{encoded_taken}
use Rattle.cdi_decode.specs.Follow.{head_of}
use Rattle.cdi_decode.specs.Decode.{Reading, response, start_of, response_wakes, payload_start, read_payload, read_framed, decode_response}
use Rattle.cdi_state.specs.declared.ModuleState.{ModuleState}
use Rattle.cdi_value.specs.Value.{value_read}
use Rattle.cdi_module.specs.Module.{command_in}
use Rattle.cdi_responses.specs.Held.{ValidState}
use Rattle.cdi_responses.specs.Theorem.{told, Means, Read, BlockTheorem, FullCircle, EveryCircle}
use Rattle.cdi_responses.proofs.Exchange.{response_payload_of, responds_to, responds_so}
use Rattle.cdi_responses.proofs.Theorem.{possible-read, start-most, tells, reader_theorem}

-- ---- a block that was read is the frame of a payload
module _ (sent block : List ℕ) (bytes : Bytes block) (r : Reading) where
  framed : (c : Command) → validate_payload sent ≡ accepted c → (f : Result Span) → read_frame response_wakes block ≡ f
      → and_then f (λ span. accepted (read_payload c (payload_in block span))) ≡ accepted r → Read sent block r
  framed c is (accepted span) read e =
      let p = payload_in block span in
      let w = accepted_is_written response_wakes block span read in
      let none : w.wake-count ≡ 0 = omega (arith, w.within_limit) in
      let means = reader_theorem sent p c is (bytes_take span.length (drop span.start block) (bytes_drop span.start block bytes)) in
      let same : read_payload c p ≡ r = cc in
      record {
        command = c;
        validated = is;
        payload = p;
        framed = w.frame_is ∙ ap (λ (k : ℕ). command_frame k p) none;
        means = subst (Means c sent p) same means;
      }
  framed c is (refused n) read e = never_both n r e

  sent-first : (v : Result Command) → validate_payload sent ≡ v → and_then v (λ c. read_framed c block) ≡ accepted r → Read sent block r
  sent-first (accepted c) is e = framed c is (read_frame response_wakes block) refl e
  sent-first (refused n) is e = never_both n r e

pub block_theorem : BlockTheorem
unfolding decode_response
block_theorem sent block bytes r e = sent-first sent block bytes r (validate_payload sent) refl e

-- ---- from the host to the module and back
-- a response has a byte
some_bytes : (c : Command) (v : List ℕ) → 1 ≤ length (head_of c ++ v)
some_bytes (ReadPlain x) v = omega arith
some_bytes (ReadIndexed x i) v = omega arith
some_bytes (ReadNv x) v = omega arith
some_bytes (ReadNvIndexed x i) v = omega arith
some_bytes (Write x w) v = omega arith
some_bytes (WriteIndexed x i w) v = omega arith
some_bytes (Program x w) v = omega arith
some_bytes (ProgramIndexed x i w) v = omega arith
some_bytes SetDefault v = omega arith
some_bytes EraseAll v = omega arith

module _ (payload frame : List ℕ) (t : TakenAs payload frame) (s : ModuleState) (v : ValidState s) (buffer : List ℕ) (room : response_buffer_min ≤ length buffer)
  where
    abbrev c : Command
    c = t.command

    valid : validate_payload payload ≡ accepted c
    valid = ap validate_payload (sym t.same) ∙ t.validated

    taken : command_in frame ≡ accepted c
    unfolding command_in
    taken = rw t.read t.validated

    abbrev answer : List ℕ
    answer = response_payload_of s v.valid payload c valid

    -- what comes back is the frame of the response
    back : take (length (response_frame answer)) (written buffer (response_frame answer)) ≡ response_frame answer
    back = written-front buffer (response_frame answer)

    decoded : decode_response payload (response_frame answer) ≡ accepted (response (start_of c) (length answer - start_of c))
    unfolding decode_response
    decoded =
        rw (valid, response-read-back response_wakes answer (some_bytes c (value_read s c)), payload-written 0 answer)
        (ap accepted (possible-read payload c valid answer (record { state = s; is_valid_lem = v; responds = responds_so s v.valid payload c valid })))

    value : part (payload_start + start_of c) (length answer - start_of c) (response_frame answer) ≡ told s c payload
    value =
        ap (take (length answer - start_of c)) (sym (drop-drop (start_of c) 3 (response_frame answer))) ∙
        tells payload c valid answer s v (responds_so s v.valid payload c valid)

    circle : FullCircle payload frame buffer s
    circle = record {
      sent = c;
      validated = valid;
      size = length (response_frame answer);
      after = written buffer (response_frame answer);
      result = responds_to s v.valid payload c valid frame buffer taken room;
      start = start_of c;
      count = length answer - start_of c;
      decoded = ap (decode_response payload) back ∙ decoded;
      within = omega (arith, start-most c, length-append (head_of c) (value_read s c));
      value = ap (part (payload_start + start_of c) (length answer - start_of c)) back ∙ value;
    }

pub every_circle : EveryCircle
every_circle payload wakes k frame e s v buffer room = circle payload frame (encoded_taken payload wakes k frame e) s v buffer room
