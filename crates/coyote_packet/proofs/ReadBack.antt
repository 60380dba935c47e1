-- The packet of an accepted message is read as that message.
-- Assumes nothing.
use Prim.Native.Nat.{ℕ, ◌+◌, ◌*◌, ◌%◌, ◌<◌, ◌≤◌}
use mathlib.Core.Path.{◌≡◌, refl, sym, ap, ◌∙◌}
use mathlib.Core.Bool.{true, ◌&&◌, and-eq-true_iff}
use mathlib.Core.List.{List, [], ◌∷◌, ◌++◌, append_assoc}
use native.Mathlib.Omega.{arith}
use borrow.Author.Tests.{le-leb, eq-eqb, ltb-true, ltb-false}
use lib.Dec.{ltb}
use lib.ListN.{length, get_or, take, drop}
use lib.Seq.{get_or-append-add, take_at, drop-drop, drop-append-add}
use Rattle.logic.specs.Lists.{part}
use Rattle.logic.proofs.Choice.{by_cases}
use Rattle.refusal.specs.Refusal.{accepted}
use Rattle.checksum.specs.Checksum.{sum_from}
use Rattle.coyote_packet.specs.declared.Addressed.{Addressed}
use Rattle.coyote_packet.specs.Layout.{ack_data_type, no_ack_data_type, ack_type, addressed_end, sequences, read_mem_type, success_type, failure_type, low_first, front, end, sum_start, packet_bytes, addressed, read_mem, success, failure, targets_end, payload_of, message_bytes, targets_before, targets_max, fit_targets, fit_data, is_accepted}
use Rattle.coyote_packet.specs.Read.{payload_start, targets_start, addressed_in, message_in, word_at, addressed_case, end_at, addressed_with, read_addressed, read_memory, read_success, read_failure, read_payload, read_packet, read_message}
use Rattle.coyote_packet.specs.Laws.{ReadBack}
use Rattle.coyote_packet.proofs.Targets.{most, targets-written}
use Rattle.coyote_packet.proofs.Lengths.{addressed-length}
use Rattle.coyote_packet.proofs.Fits.{targets-counted}
use Rattle.coyote_packet.proofs.Frame.{word_is, packet_read}

-- a type with addresses is the base of its case and the sequence number
pub case_says : (type : ℕ) (block : List ℕ) (a : Addressed) → type < addressed_end → a.sequence ≡ type % sequences
    → message_in block (addressed_case type a)
    ≡ addressed type a.source_group a.source_address (part targets_start (2 * a.target_count) block) (part a.data_start a.data_length block)
case_says type block a h e =
    by_cases (ltb type no_ack_data_type)
    (λ t. simp t (said ack_data_type (omega (arith, ltb-true type no_ack_data_type t))))
    (λ f. by_cases (ltb type ack_type)
    (λ t. simp (f, t) (said no_ack_data_type (omega (arith, ltb-false type no_ack_data_type f, ltb-true type ack_type t))))
    (λ g. simp (f, g) (said ack_type (omega (arith, ltb-false type ack_type g)))))
  where
    said : (base : ℕ) → base + a.sequence ≡ type → addressed_in base block a
        ≡ addressed type a.source_group a.source_address (part targets_start (2 * a.target_count) block) (part a.data_start a.data_length block)
    said base q = ap (λ (n : ℕ). addressed n a.source_group a.source_address (part targets_start (2 * a.target_count) block) (part a.data_start a.data_length block)) q

-- a packet with addresses: its targets and its data lie where the reader says
module _ (type group address : ℕ) (targets bytes : List ℕ) where
  abbrev payload : List ℕ
  payload = payload_of (addressed type group address targets bytes)

  abbrev block : List ℕ
  block = packet_bytes type payload

  abbrev tail : List ℕ
  tail = sum_from sum_start (front type payload) ∷ end ∷ []

  -- what the reader gives for k targets
  abbrev pub fields : ℕ → Addressed
  fields k = record {
    sequence = type % sequences;
    source_group = group;
    source_address = address;
    target_count = k;
    data_start = payload_start + end_at k + 3;
    data_length = length bytes;
  }

  from-targets : drop targets_start block ≡ targets ++ targets_end ∷ (low_first (length bytes) ++ (bytes ++ tail))
  unfolding packet_bytes payload_of
  from-targets = append_assoc targets (targets_end ∷ (low_first (length bytes) ++ bytes)) tail

  module _ (k : ℕ) (even : 2 * k ≡ length targets) where
    targets-back : part targets_start (2 * k) block ≡ targets
    targets-back = ap (take (2 * k)) from-targets ∙ take_at targets _ (2 * k) (sym even)

    pub data_back : part (payload_start + end_at k + 3) (length bytes) block ≡ bytes
    data_back =
        let place : payload_start + end_at k + 3 ≡ targets_start + (length targets + 3) = omega arith in
        ap (λ (i : ℕ). take (length bytes) (drop i block)) place ∙
        ap (take (length bytes))
        (sym (drop-drop (length targets + 3) targets_start block) ∙
        ap (drop (length targets + 3)) from-targets ∙
        drop-append-add targets (targets_end ∷ (low_first (length bytes) ++ (bytes ++ tail))) 3) ∙
        take_at bytes tail (length bytes) refl

    after-targets : (i : ℕ) → get_or payload (end_at k + i) 0 ≡ get_or (targets_end ∷ (low_first (length bytes) ++ bytes)) i 0
    unfolding payload_of
    after-targets i =
        let place : end_at k + i ≡ length (group ∷ address ∷ targets) + i = omega arith in
        ap (λ (j : ℕ). get_or payload j 0) place ∙ get_or-append-add (group ∷ address ∷ targets) (targets_end ∷ (low_first (length bytes) ++ bytes)) i 0

    size_back : word_at payload (end_at k + 1) ≡ length bytes
    size_back =
        let next : end_at k + 1 + 1 ≡ end_at k + 2 = omega arith in
        omega (arith, after-targets 1, after-targets 2, ap (λ (j : ℕ). get_or payload j 0) next, word_is (length bytes))

    end_back : get_or payload (end_at k) 0 ≡ targets_end
    end_back =
        let here : end_at k ≡ end_at k + 0 = omega arith in
        ap (λ (j : ℕ). get_or payload j 0) here ∙ after-targets 0

    addressed_with_lem : 1 ≤ k → k ≤ targets_max → fit_data type (length bytes) ≡ true → addressed_with type payload k ≡ accepted (addressed_case type (fields k))
    unfolding payload_of
    addressed_with_lem low high fit =
        simp (
          le-leb 1 k low,
          le-leb k targets_max high,
          size_back,
          eq-eqb (end_at k + 3 + length bytes) (length payload) (omega (arith, addressed-length type group address targets bytes)),
          eq-eqb (get_or payload (end_at k) 0) targets_end end_back,
          fit,
        )

  -- the packet of an accepted message is read as these fields
  pub addressed-read : is_accepted (addressed type group address targets bytes) ≡ true
      → (2 * targets_before targets_max targets ≡ length targets) × (read_packet block ≡ accepted (addressed_case type (fields (targets_before targets_max targets))))
  unfolding is_accepted read_payload read_addressed payload_of
  addressed-read e =
      let a = (and-eq-true_iff (ltb type addressed_end) (fit_targets targets && fit_data type (length bytes))).0 e in
      let b = (and-eq-true_iff (fit_targets targets) (fit_data type (length bytes))).0 a.1 in
      let k = targets_before targets_max targets in
      let n = targets-counted targets b.0 in
      let counted = targets-written targets_max (1 + targets_max) k targets (low_first (length bytes) ++ bytes) refl n.1 (omega (arith, most targets_max targets)) in
      (n.1, packet_read type payload ∙ simp (a.0, counted) (addressed_with_lem k n.1 n.0 (most targets_max targets) b.1))

  addressed-back : is_accepted (addressed type group address targets bytes) ≡ true → read_message block ≡ accepted (addressed type group address targets bytes)
  unfolding is_accepted
  addressed-back e =
      let small = (and-eq-true_iff (ltb type addressed_end) (fit_targets targets && fit_data type (length bytes))).0 e in
      let k = targets_before targets_max targets in
      let r = addressed-read e in
      rw r.1
      (ap accepted
      (case_says type block (fields k) (ltb-true type addressed_end small.0) refl ∙
      ap (λ (l : List ℕ). addressed type group address l (part (payload_start + end_at k + 3) (length bytes) block)) (targets-back k r.0) ∙
      ap (addressed type group address targets) (data_back k r.0)))

memory_back : (space address size : ℕ) → is_accepted (read_mem space address size) ≡ true → read_message (message_bytes (read_mem space address size)) ≡ accepted (read_mem space address size)
unfolding is_accepted payload_of read_payload read_memory
memory_back space address size e =
    let payload = payload_of (read_mem space address size) in
    rw (packet_read read_mem_type payload) (simp (word_is address, word_is size, e))

success_data : (request : ℕ) (bytes : List ℕ) → part (payload_start + 3) (length bytes) (message_bytes (success request bytes)) ≡ bytes
unfolding packet_bytes payload_of
success_data request bytes = take_at bytes _ (length bytes) refl

success-back : (request : ℕ) (bytes : List ℕ) → is_accepted (success request bytes) ≡ true → read_message (message_bytes (success request bytes)) ≡ accepted (success request bytes)
unfolding is_accepted payload_of read_payload read_success
success-back request bytes e =
    let payload = payload_of (success request bytes) in
    rw (packet_read success_type payload)
    (simp (word_is (length bytes), eq-eqb (3 + length bytes) (length payload) (omega arith), e) (ap (λ (l : List ℕ). accepted (success request l)) (success_data request bytes)))

failure-back : (request code : ℕ) → is_accepted (failure request code) ≡ true → read_message (message_bytes (failure request code)) ≡ accepted (failure request code)
unfolding is_accepted payload_of read_payload read_failure
failure-back request code e =
    let payload = payload_of (failure request code) in
    rw (packet_read failure_type payload) (simp e)

pub read_back : ReadBack
read_back (addressed type group address targets bytes) e = addressed-back type group address targets bytes e
read_back (read_mem space address size) e = memory_back space address size e
read_back (success request bytes) e = success-back request bytes e
read_back (failure request code) e = failure-back request code e
