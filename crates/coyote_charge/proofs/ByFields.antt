-- What is imported, by the fields of what was read: the packets with a type from 10 to 1F are exactly those of the case NoAckData.
-- Assumes nothing.
use Prim.Native.Nat.{ℕ, ◌+◌, ◌<◌, ◌≤◌}
use mathlib.Core.Path.{◌≡◌, refl, sym, subst}
use mathlib.Core.List.{List}
use native.Mathlib.Omega.{arith}
use lib.ListN.{length}
use Rattle.logic.proofs.Bytes.{Bytes}
use Rattle.refusal.specs.Refusal.{Result, accepted, refused, and_then, packet_content}
use Rattle.refusal.proofs.Results.{never_both}
use Rattle.coyote_packet.specs.declared.Packet.{Packet}
use Rattle.coyote_packet.specs.declared.Packet.TheVariants.{AckData, NoAckData, Ack, ReadMem, Success, Failure}
use Rattle.coyote_packet.specs.Layout.{no_ack_data_type, ack_type}
use Rattle.coyote_packet.specs.Read.{read_packet}
use Rattle.coyote_packet.specs.Laws.{Within, Small}
use Rattle.coyote_packet.proofs.Accepted.{accepted_laid_out}
use Rattle.coyote_fields.specs.declared.PacketFields.{PacketFields}
use Rattle.coyote_fields.specs.Fields.{packet_fields, fields_read}
use Rattle.coyote_charge.specs.declared.Charge.{Charge}
use Rattle.coyote_charge.specs.Charge.{charge_from, charge_in, import_charge}

-- what an import makes of the fields of a packet
pub record Imports (block : List ℕ) (r : Result Charge) (f : PacketFields) : Type 0 where
  pub too_low : f.kind < no_ack_data_type → r ≡ refused packet_content
  pub too_high : ack_type ≤ f.kind → r ≡ refused packet_content
  pub taken : no_ack_data_type ≤ f.kind → f.kind < ack_type → (r ≡ charge_from block f.data_start f.data_length) × (f.data_start + f.data_length ≤ length block)

by_case : (block : List ℕ) (p : Packet) → Within block p → Small p → Imports block (charge_in block p) (packet_fields p)
by_case block (AckData a) w s = record { too_low = λ h. refl; too_high = λ h. refl; taken = λ h l. absurd (omega (arith, s)) }
by_case block (NoAckData a) w s = record { too_low = λ h. absurd (omega arith); too_high = λ h. absurd (omega (arith, s)); taken = λ h l. (refl, w.1) }
by_case block (Ack a) w s = record { too_low = λ h. refl; too_high = λ h. refl; taken = λ h l. absurd (omega arith) }
by_case block (ReadMem m) w s = record { too_low = λ h. refl; too_high = λ h. refl; taken = λ h l. absurd (omega arith) }
by_case block (Success t) w s = record { too_low = λ h. refl; too_high = λ h. refl; taken = λ h l. absurd (omega arith) }
by_case block (Failure f) w s = record { too_low = λ h. refl; too_high = λ h. refl; taken = λ h l. absurd (omega arith) }

of_read : (block : List ℕ) → Bytes block → (f : PacketFields) (r : Result Packet) → read_packet block ≡ r → accepted f ≡ fields_read r
    → Imports block (and_then r (charge_in block)) f
of_read block bytes f (accepted p) read e =
    let l = accepted_laid_out block p bytes read in
    let same : packet_fields p ≡ f = cc in
    subst (Imports block (charge_in block p)) same (by_case block p l.places-within l.numbers_small)
of_read block bytes f (refused n) read e = never_both n f (sym e)

pub imports : (block : List ℕ) → Bytes block → (f : PacketFields) → accepted f ≡ fields_read (read_packet block) → Imports block (import_charge block) f
unfolding import_charge
imports block bytes f e = of_read block bytes f (read_packet block) refl e

-- a refusal of the reader is handed on
of_refused : (block : List ℕ) (n : ℕ) (r : Result Packet) → refused n ≡ fields_read r → refused n ≡ and_then r (charge_in block)
of_refused block n (accepted p) e = never_both n (packet_fields p) e
of_refused block n (refused m) e = let same : n ≡ m = cc in rw same refl

pub handed_on : (block : List ℕ) (n : ℕ) → refused n ≡ fields_read (read_packet block) → refused n ≡ import_charge block
unfolding import_charge
handed_on block n e = of_refused block n (read_packet block) e
