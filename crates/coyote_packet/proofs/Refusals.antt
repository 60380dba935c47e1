-- The reader refuses with 24, 25, 26 or 27 and no other number.
-- Assumes nothing.
use Prim.Native.Nat.{ℕ, ◌+◌}
use mathlib.Core.Path.{◌≡◌, refl}
use mathlib.Core.Bool.{true, ◌&&◌}
use mathlib.Core.List.{List, [], ◌∷◌}
use lib.Dec.{eqb, ltb, leb}
use lib.ListN.{length, get_or, drop}
use Rattle.logic.proofs.Choice.{choice}
use Rattle.refusal.specs.Refusal.{Result, refused, packet_ends, packet_length, packet_sum, packet_content}
use Rattle.refusal.proofs.Results.{among, RefusedAmong, of_refused}
use Rattle.checksum.specs.Checksum.{sum_holds, ends_hold}
use Rattle.coyote_packet.specs.declared.Packet.{Packet}
use Rattle.coyote_packet.specs.Layout.{start, end, addressed_end, read_mem_type, success_type, failure_type, sum_start, targets_before, targets_max, data_max, fit_memory, failure_code_max}
use Rattle.coyote_packet.specs.Read.{payload_in, word_at, fit_addressed, read_addressed, read_memory, read_success, read_failure, read_payload, length_holds, read_packet}

abbrev pub packet_refusals : List ℕ
packet_refusals = packet_ends ∷ packet_length ∷ packet_sum ∷ packet_content ∷ []

abbrev Listed : Result Packet → Type 0
Listed = RefusedAmong packet_refusals

payload-listed : (type : ℕ) (payload : List ℕ) → Listed (read_payload type payload)
unfolding read_payload read_addressed read_memory read_success read_failure
payload-listed type payload =
    choice Listed (ltb type addressed_end)
    (λ _. choice Listed (fit_addressed type payload (targets_before (1 + targets_max) (drop 2 payload))) (λ _. tt) (λ _. refl))
    (λ _. choice Listed (eqb type read_mem_type)
    (λ _. choice Listed (eqb (length payload) 5 && fit_memory (get_or payload 0 0) (word_at payload 3)) (λ _. tt) (λ _. refl))
    (λ _. choice Listed (eqb type success_type)
    (λ _. choice Listed (eqb (3 + word_at payload 1) (length payload) && leb (word_at payload 1) data_max) (λ _. tt) (λ _. refl))
    (λ _. choice Listed (eqb type failure_type)
    (λ _. choice Listed (eqb (length payload) 4 && (eqb (word_at payload 1) 1 && leb (get_or payload 3 0) failure_code_max)) (λ _. tt) (λ _. refl))
    (λ _. refl))))

every_listed : (block : List ℕ) → Listed (read_packet block)
unfolding read_packet
every_listed block =
    choice Listed (ends_hold start end block)
    (λ _. choice Listed (length_holds block)
    (λ _. choice Listed (sum_holds sum_start block) (λ _. payload-listed (get_or block 1 0) (payload_in block)) (λ _. refl))
    (λ _. refl))
    (λ _. refl)

pub read-refusal : (block : List ℕ) (n : ℕ) → read_packet block ≡ refused n → among packet_refusals n ≡ true
read-refusal block n e = of_refused packet_refusals e (every_listed block)
