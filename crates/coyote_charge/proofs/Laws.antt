-- An export is imported as what was exported, and what is imported was exported.
-- Assumes nothing.
use Prim.Native.Nat.{ℕ, suc, ◌+◌, ◌*◌, ◌/◌, ◌%◌, ◌<◌, ◌≤◌}
use mathlib.Core.Path.{◌≡◌, refl, sym, ap, ◌∙◌}
use mathlib.Core.Bool.{true}
use mathlib.Core.List.{List}
use native.Mathlib.Omega.{arith}
use borrow.Author.Tests.{lt-ltb, le-ltb, ltb-true, eqb-true}
use lib.Dec.{eqb, ltb}
use lib.ListN.{length, get_or, drop}
use lib.Seq.{get_or-take, get_or-drop}
use Rattle.logic.specs.Lists.{part}
use Rattle.logic.proofs.Bytes.{Bytes}
use Rattle.logic.proofs.Places.{part_is_bytes}
use Rattle.refusal.specs.Refusal.{Result, accepted, refused, and_then, packet_content}
use Rattle.refusal.proofs.Results.{else_refused, never_both}
use Rattle.cdi_item.specs.Items.{is_input_number}
use Rattle.coyote_packet.specs.declared.Addressed.{Addressed}
use Rattle.coyote_packet.specs.declared.Packet.{Packet}
use Rattle.coyote_packet.specs.declared.Packet.TheVariants.{AckData, NoAckData, Ack, ReadMem, Success, Failure}
use Rattle.coyote_packet.specs.Layout.{no_ack_data_type, ack_type, sequences, Message, addressed, message_bytes, targets_before, targets_max}
use Rattle.coyote_packet.specs.Read.{payload_start, targets_start, end_at, addressed_case, message_in, read_packet}
use Rattle.coyote_packet.proofs.ReadBack.{fields, data_back, addressed-read}
use Rattle.coyote_packet.proofs.Accepted.{accepted_laid_out}
use Rattle.coyote_encode.specs.Encode.{encode}
use Rattle.coyote_encode.proofs.Laws.{passed, read_is_written}
use Rattle.coyote_charge.specs.declared.Charge.{Charge}
use Rattle.coyote_charge.specs.Charge.{charge, charge_bytes, charge_message, export_charge, charge_from, charge_in, import_charge}
use Rattle.coyote_charge.specs.Laws.{ExportIsImported, Exported, ImportWasExported}

-- a byte of a part, at its place in the whole
at_place : (block : List ℕ) (start i : ℕ) (bytes : List ℕ) → i < 3 → part start 3 block ≡ bytes → get_or block (start + i) 0 ≡ get_or bytes i 0
at_place block start i bytes h e =
    sym (get_or-drop start block i 0) ∙ sym (get_or-take 3 (drop start block) i 0 h) ∙ ap (λ (l : List ℕ). get_or l i 0) e

-- three bytes of data that are a charge are read as that charge
charge-back : (block : List ℕ) (start : ℕ) (c : Charge) → is_input_number c.input.0 ≡ true → part start 3 block ≡ charge_bytes c → charge_from block start 3 ≡ accepted c
charge-back block start c ok e =
    let zero : start + 0 ≡ start = omega arith in
    let first : get_or block start 0 ≡ c.input.0 = ap (λ (j : ℕ). get_or block j 0) (sym zero) ∙ at_place block start 0 (charge_bytes c) (omega arith) e in
    let high = at_place block start 1 (charge_bytes c) (omega arith) e in
    let low = at_place block start 2 (charge_bytes c) (omega arith) e in
    let whole : 256 * (c.readout / 256) + c.readout % 256 ≡ c.readout = omega arith in
    simp (first, high, low, whole, ok)

-- the case of a type from 10 to 1F
case_is : (sequence : ℕ) (a : Addressed) → sequence < sequences → addressed_case (no_ack_data_type + sequence) a ≡ NoAckData a
case_is sequence a h = simp (le-ltb (no_ack_data_type + sequence) no_ack_data_type (omega arith), lt-ltb (no_ack_data_type + sequence) ack_type (omega arith))

pub export_is-imported : ExportIsImported
unfolding export_charge import_charge
export_is-imported sequence group address targets c room block e =
    let a = else_refused (ltb sequence sequences) _ _ block e in
    let b = else_refused (is_input_number c.input.0) _ _ block a.1 in
    let m = charge_message sequence group address targets c in
    let p = passed m room block b.1 in
    let type = no_ack_data_type + sequence in
    let k = targets_before targets_max targets in
    let r = addressed-read type group address targets (charge_bytes c) p.0 in
    let inside = data_back type group address targets (charge_bytes c) k r.0 in
    rw (← p.2, r.1, case_is sequence (fields type group address targets (charge_bytes c) k) (ltb-true sequence sequences a.0))
    (charge-back (message_bytes m) (payload_start + end_at k + 3) c b.0 inside)

-- the data of a block that is read as a charge are that charge's bytes
data_is : (block : List ℕ) (start size : ℕ) (c : Charge) → Bytes block → start + size ≤ length block → charge_from block start size ≡ accepted c
    → (is_input_number c.input.0 ≡ true) × (part start size block ≡ charge_bytes c)
data_is block start size c bytes h e =
    let input = get_or block start 0 in
    let high = get_or block (start + 1) 0 in
    let low = get_or block (start + 2) 0 in
    let a = else_refused (eqb size 3) _ _ c e in
    let b = else_refused (is_input_number input) _ _ c a.1 in
    let same : c ≡ charge input (256 * high + low) = cc in
    let three = eqb-true size 3 a.0 in
    let upper : (256 * high + low) / 256 ≡ high = omega (arith, bytes (start + 2)) in
    let lower : (256 * high + low) % 256 ≡ low = omega (arith, bytes (start + 2)) in
    let one : suc start ≡ start + 1 = omega arith in
    let two : suc (start + 1) ≡ start + 2 = omega arith in
    rw same
    (b.0, ap (λ (n : ℕ). part start n block) three ∙ part_is_bytes start 3 block (omega arith) ∙ simp (one, two, upper, lower))

was_exported : (block : List ℕ) (c : Charge) → Bytes block → (p : Packet) → read_packet block ≡ accepted p → charge_in block p ≡ accepted c → Exported block c
unfolding export_charge
was_exported block c bytes (NoAckData a) e r =
    let l = accepted_laid_out block (NoAckData a) bytes e in
    let d = data_is block a.data_start a.data_length c bytes l.places-within.1 r in
    let t = part targets_start (2 * a.target_count) block in
    let again = read_is_written block (NoAckData a) (length block) bytes e (omega arith) in
    let same : message_in block (NoAckData a) ≡ charge_message a.sequence a.source_group a.source_address t c =
    ap (addressed (no_ack_data_type + a.sequence) a.source_group a.source_address t) d.1
    in
    record {
      sequence = a.sequence;
      group = a.source_group;
      address = a.source_address;
      targets = t;
      export_is = simp (lt-ltb a.sequence sequences l.numbers_small.0, d.0) (ap (λ (m : Message). encode m (length block)) (sym same) ∙ again);
    }
was_exported block c bytes (AckData a) e r = never_both packet_content c r
was_exported block c bytes (Ack a) e r = never_both packet_content c r
was_exported block c bytes (ReadMem m) e r = never_both packet_content c r
was_exported block c bytes (Success s) e r = never_both packet_content c r
was_exported block c bytes (Failure f) e r = never_both packet_content c r

-- what was read of a block that is imported
read_of : (block : List ℕ) (c : Charge) → Bytes block → (r : Result Packet) → read_packet block ≡ r → and_then r (charge_in block) ≡ accepted c → Exported block c
read_of block c bytes (accepted p) e s = was_exported block c bytes p e s
read_of block c bytes (refused n) e s = never_both n c s

pub import_was_exported : ImportWasExported
unfolding import_charge
import_was_exported block c bytes e = read_of block c bytes (read_packet block) refl e
