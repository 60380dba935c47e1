-- A payload that is read is the payload of an accepted message, so a block that is read is exactly its packet.
-- Assumes nothing.
use Prim.Native.Nat.{ℕ, ◌+◌, ◌-◌, ◌*◌, ◌/◌, ◌%◌, ◌<◌, ◌≤◌}
use mathlib.Core.Path.{◌≡◌, refl, sym, ap, subst, ◌∙◌}
use mathlib.Core.Bool.{true, ◌&&◌, and-eq-true_iff}
use mathlib.Core.List.{List, [], ◌∷◌, ◌++◌}
use native.Mathlib.Omega.{arith}
use borrow.Author.Tests.{lt-ltb, le-leb, eq-eqb, eqb-true, leb-true, ltb-true}
use lib.Dec.{eqb, ltb, leb}
use lib.ListN.{length, get_or, take, drop, length-drop, take-append-drop}
use lib.Seq.{drop-drop, length-take-le}
use Rattle.logic.proofs.Bytes.{Bytes, bytes_take, bytes_drop}
use Rattle.logic.proofs.Choice.{choice, by_cases}
use Rattle.logic.proofs.Places.{all_is_bytes}
use Rattle.logic.proofs.Rest.{one_more}
use Rattle.refusal.specs.Refusal.{accepted, packet_content}
use Rattle.refusal.proofs.Results.{else_refused, never_both}
use Rattle.coyote_packet.specs.declared.Addressed.{Addressed}
use Rattle.coyote_packet.specs.declared.Packet.{Packet}
use Rattle.coyote_packet.specs.declared.Packet.TheVariants.{ReadMem, Success, Failure}
use Rattle.coyote_packet.specs.Layout.{ack_type, no_ack_data_type, addressed_end, read_mem_type, success_type, failure_type, low_first, packet_bytes, Message, addressed, read_mem, success, failure, type_of, targets_end, payload_of, message_bytes, targets_before, targets_max, data_max, fit_data, fit_memory, failure_code_max, is_accepted}
use Rattle.coyote_packet.specs.Read.{payload_start, overhead, payload_in, message_in, word_at, addressed_case, addressed_packet, end_at, fit_addressed, addressed_with, read_addressed, read_memory, read_success, read_failure, read_payload, read_packet, read_message}
use Rattle.coyote_packet.specs.Laws.{AddressedWithin, Within, AddressedSmall, Small, LaidOut}
use Rattle.coyote_packet.proofs.Targets.{targets-read}
use Rattle.coyote_packet.proofs.Lengths.{packet_length_lem}
use Rattle.coyote_packet.proofs.Fits.{data_size}
use Rattle.coyote_packet.proofs.Frame.{accepted_packet}
use Rattle.coyote_packet.proofs.ReadBack.{read_back}

-- a payload of that type, in that block, is the payload of an accepted message, and the packet's places lie in the block
record Found (type : ℕ) (payload block : List ℕ) (p : Packet) : Type 0 where
  pub message : Message
  pub ok : is_accepted message ≡ true
  pub type_is : type_of message ≡ type
  pub payload_is : payload_of message ≡ payload
  pub places : Within block p
  pub numbers : Small p

-- two bytes, low first, are those of their number
low_first_lem : (payload : List ℕ) (i : ℕ) → Bytes payload → low_first (word_at payload i) ≡ get_or payload i 0 ∷ get_or payload (i + 1) 0 ∷ []
low_first_lem payload i bytes =
    let low : word_at payload i % 256 ≡ get_or payload i 0 = omega (arith, bytes i) in
    let high : word_at payload i / 256 ≡ get_or payload (i + 1) 0 = omega (arith, bytes i) in
    rw (low, high)

fit_message : (type group address n size : ℕ) (targets bytes : List ℕ) → type < addressed_end → targets_before targets_max targets ≡ n → 1 ≤ n → 2 * n ≡ length targets
    → length bytes ≡ size → fit_data type size ≡ true → is_accepted (addressed type group address targets bytes) ≡ true
unfolding is_accepted
fit_message type group address n size targets bytes h count low even long fit =
    simp (lt-ltb type addressed_end h, count, le-leb 1 n low, eq-eqb (2 * n) (length targets) even, long, fit)

module _ (type n : ℕ) (payload block : List ℕ) (bytes : Bytes payload) (room : length block ≡ length payload + overhead) where
  within_case : (a : Addressed) → AddressedWithin block a → Within block (addressed_case type a)
  within_case a h = choice (Within block) (ltb type no_ack_data_type) (λ _. h) (λ _. choice (Within block) (ltb type ack_type) (λ _. h) (λ _. h))

  small_case : (a : Addressed) → AddressedSmall a → Small (addressed_case type a)
  small_case a h = choice Small (ltb type no_ack_data_type) (λ _. h) (λ _. choice Small (ltb type ack_type) (λ _. h) (λ _. h))

  -- the payload taken apart at its places
  module _ (long : end_at n + 3 ≤ length payload) (size : end_at n + 3 + word_at payload (end_at n + 1) ≡ length payload) (eoa : get_or payload (end_at n) 0 ≡ targets_end) where
    abbrev targets : List ℕ
    targets = take (2 * n) (drop 2 payload)

    abbrev data_bytes : List ℕ
    data_bytes = drop (end_at n + 3) payload

    data_length : length data_bytes ≡ word_at payload (end_at n + 1)
    data_length = omega (arith, length-drop (end_at n + 3) payload)

    taken-apart : payload_of (addressed type (get_or payload 0 0) (get_or payload 1 0) targets data_bytes) ≡ payload
    unfolding payload_of
    taken-apart =
        let l = drop 2 payload in
        let z1 : end_at n + 1 + 1 + 1 ≡ end_at n + 3 = omega arith in
        let words : low_first (length data_bytes) ≡ get_or payload (end_at n + 1) 0 ∷ get_or payload (end_at n + 1 + 1) 0 ∷ [] =
        ap low_first data_length ∙ low_first_lem payload (end_at n + 1) bytes
        in
        let rest : drop (2 * n) l ≡ targets_end ∷ (low_first (length data_bytes) ++ data_bytes) =
        drop-drop (2 * n) 2 payload ∙
        one_more payload (end_at n) 0 (omega arith) ∙
        ap (λ (x : ℕ). x ∷ drop (end_at n + 1) payload) eoa ∙
        ap (λ (r : List ℕ). targets_end ∷ r)
        (one_more payload (end_at n + 1) 0 (omega arith) ∙
        ap (λ (r : List ℕ). get_or payload (end_at n + 1) 0 ∷ r)
        (one_more payload (end_at n + 1 + 1) 0 (omega arith) ∙
        ap (λ (i : ℕ). get_or payload (end_at n + 1 + 1) 0 ∷ drop i payload) z1) ∙
        ap (λ (w : List ℕ). w ++ data_bytes) (sym words))
        in
        ap (λ (r : List ℕ). get_or payload 0 0 ∷ get_or payload 1 0 ∷ (targets ++ r)) (sym rest) ∙
        ap (λ (r : List ℕ). get_or payload 0 0 ∷ get_or payload 1 0 ∷ r) (take-append-drop (2 * n) l) ∙
        ap (λ (r : List ℕ). get_or payload 0 0 ∷ r) (sym (one_more payload 1 0 (omega arith))) ∙
        sym (one_more payload 0 0 (omega arith))

  found-addressed : (p : Packet) → type < addressed_end → targets_before (1 + targets_max) (drop 2 payload) ≡ n → addressed_with type payload n ≡ accepted p → Found type payload block p
  found-addressed p h counted e =
      let w = word_at payload (end_at n + 1) in
      let f = else_refused (fit_addressed type payload n) _ _ p e in
      let a = (and-eq-true_iff (leb 1 n && leb n targets_max) _).0 f.0 in
      let b = (and-eq-true_iff (leb 1 n) (leb n targets_max)).0 a.0 in
      let c = (and-eq-true_iff (eqb (end_at n + 3 + w) (length payload)) _).0 a.1 in
      let d = (and-eq-true_iff (eqb (get_or payload (end_at n) 0) targets_end) (fit_data type w)).0 c.1 in
      let size = eqb-true (end_at n + 3 + w) (length payload) c.0 in
      let eoa = eqb-true (get_or payload (end_at n) 0) targets_end d.0 in
      let low = leb-true 1 n b.0 in
      let high = leb-true n targets_max b.1 in
      let long : end_at n + 3 ≤ length payload = omega arith in
      let t = take (2 * n) (drop 2 payload) in
      let even : length t ≡ 2 * n = length-take-le (2 * n) (drop 2 payload) (omega (arith, length-drop 2 payload)) in
      let count = targets-read (1 + targets_max) targets_max n (drop 2 payload) counted (omega (arith, length-drop 2 payload)) high in
      let same : p ≡ addressed_packet type payload n = cc in
      record {
        message = addressed type (get_or payload 0 0) (get_or payload 1 0) t (drop (end_at n + 3) payload);
        ok = fit_message type (get_or payload 0 0) (get_or payload 1 0) n w t (drop (end_at n + 3) payload) h count low (sym even) (data_length long size eoa) d.1;
        type_is = refl;
        payload_is = taken-apart long size eoa;
        places = rw same (within_case _ (omega arith));
        numbers = rw same (small_case _ (omega (arith, data_size type w d.1)));
      }

module _ (payload block : List ℕ) (bytes : Bytes payload) (room : length block ≡ length payload + overhead) (p : Packet) where
  found_memory : read_memory payload ≡ accepted p → Found read_mem_type payload block p
  unfolding read_memory payload_of is_accepted
  found_memory e =
      let f = else_refused (eqb (length payload) 5 && fit_memory (get_or payload 0 0) (word_at payload 3)) _ _ p e in
      let a = (and-eq-true_iff (eqb (length payload) 5) (fit_memory (get_or payload 0 0) (word_at payload 3))).0 f.0 in
      let same : p ≡ ReadMem (record { space = get_or payload 0 0; address = word_at payload 1; length = word_at payload 3 }) = cc in
      record {
        message = read_mem (get_or payload 0 0) (word_at payload 1) (word_at payload 3);
        ok = a.1;
        type_is = refl;
        payload_is =
            ap (λ (l : List ℕ). get_or payload 0 0 ∷ (l ++ low_first (word_at payload 3))) (low_first_lem payload 1 bytes) ∙
            ap (λ (l : List ℕ). get_or payload 0 0 ∷ get_or payload 1 0 ∷ get_or payload 2 0 ∷ l) (low_first_lem payload 3 bytes) ∙
            all_is_bytes 5 payload (eqb-true (length payload) 5 a.0);
        places = rw same tt;
        numbers = rw same tt;
      }

  found-success : read_success payload ≡ accepted p → Found success_type payload block p
  unfolding read_success payload_of is_accepted
  found-success e =
      let w = word_at payload 1 in
      let f = else_refused (eqb (3 + w) (length payload) && leb w data_max) _ _ p e in
      let a = (and-eq-true_iff (eqb (3 + w) (length payload)) (leb w data_max)).0 f.0 in
      let size = eqb-true (3 + w) (length payload) a.0 in
      let long : length (drop 3 payload) ≡ w = omega (arith, length-drop 3 payload) in
      let same : p ≡ Success (record { request_type = get_or payload 0 0; data_start = payload_start + 3; data_length = w }) = cc in
      record {
        message = success (get_or payload 0 0) (drop 3 payload);
        ok = rw long a.1;
        type_is = refl;
        payload_is =
            ap (λ (l : List ℕ). get_or payload 0 0 ∷ (l ++ drop 3 payload)) (ap low_first long ∙ low_first_lem payload 1 bytes) ∙
            sym
            (one_more payload 0 0 (omega arith) ∙
            ap (λ (l : List ℕ). get_or payload 0 0 ∷ l)
            (one_more payload 1 0 (omega arith) ∙ ap (λ (l : List ℕ). get_or payload 1 0 ∷ l) (one_more payload 2 0 (omega arith))));
        places = rw same (omega arith);
        numbers = rw same (omega (arith, leb-true w data_max a.1));
      }

  found-failure : read_failure payload ≡ accepted p → Found failure_type payload block p
  unfolding read_failure payload_of is_accepted
  found-failure e =
      let code = get_or payload 3 0 in
      let f = else_refused (eqb (length payload) 4 && (eqb (word_at payload 1) 1 && leb code failure_code_max)) _ _ p e in
      let a = (and-eq-true_iff (eqb (length payload) 4) (eqb (word_at payload 1) 1 && leb code failure_code_max)).0 f.0 in
      let b = (and-eq-true_iff (eqb (word_at payload 1) 1) (leb code failure_code_max)).0 a.1 in
      let one = eqb-true (word_at payload 1) 1 b.0 in
      let low : 1 ≡ get_or payload 1 0 = omega (arith, bytes 1) in
      let high : 0 ≡ get_or payload 2 0 = omega (arith, bytes 1) in
      let same : p ≡ Failure (record { request_type = get_or payload 0 0; code = code }) = cc in
      record {
        message = failure (get_or payload 0 0) code;
        ok = b.1;
        type_is = refl;
        payload_is =
            ap (λ (x : ℕ). get_or payload 0 0 ∷ x ∷ 0 ∷ code ∷ []) low ∙
            ap (λ (x : ℕ). get_or payload 0 0 ∷ get_or payload 1 0 ∷ x ∷ code ∷ []) high ∙
            all_is_bytes 4 payload (eqb-true (length payload) 4 a.0);
        places = rw same tt;
        numbers = rw same tt;
      }

  found : (type : ℕ) → read_payload type payload ≡ accepted p → Found type payload block p
  unfolding read_payload read_addressed
  found type e =
      by_cases (ltb type addressed_end)
      (λ t.
      found-addressed type (targets_before (1 + targets_max) (drop 2 payload)) payload block bytes room p (ltb-true type addressed_end t) refl (simp t at e))
      (λ f. by_cases (eqb type read_mem_type)
      (λ t. subst (λ (n : ℕ). Found n payload block p) (sym (eqb-true type read_mem_type t)) (found_memory (simp (f, t) at e)))
      (λ g. by_cases (eqb type success_type)
      (λ t. subst (λ (n : ℕ). Found n payload block p) (sym (eqb-true type success_type t)) (found-success (simp (f, g, t) at e)))
      (λ h. by_cases (eqb type failure_type)
      (λ t. subst (λ (n : ℕ). Found n payload block p) (sym (eqb-true type failure_type t)) (found-failure (simp (f, g, h, t) at e)))
      (λ i. never_both packet_content p (simp (f, g, h, i) at e)))))

-- a block that is read is exactly the packet of what it says, a writer accepts that, and every place lies in the block
pub accepted_laid_out : (block : List ℕ) (p : Packet) → Bytes block → read_packet block ≡ accepted p → LaidOut block p
accepted_laid_out block p bytes e =
    let whole = accepted_packet block p bytes e in
    let payload = payload_in block in
    let room : length block ≡ length payload + overhead = ap length whole.0 ∙ packet_length_lem (get_or block 1 0) payload in
    let inside = bytes_take (length block - overhead) (drop payload_start block) (bytes_drop payload_start block bytes) in
    let f = found payload block inside room p (get_or block 1 0) whole.1 in
    let m = f.message in
    let written : block ≡ message_bytes m = whole.0 ∙ ap (λ (t : ℕ). packet_bytes t payload) (sym f.type_is) ∙ ap (packet_bytes (type_of m)) (sym f.payload_is) in
    let said : read_message block ≡ accepted m = ap read_message written ∙ read_back m f.ok in
    let told : read_message block ≡ accepted (message_in block p) = rw e in
    let same : message_in block p ≡ m = cc in
    record {
      message-accepted = rw same f.ok;
      packet_is = written ∙ ap message_bytes (sym same);
      places-within = f.places;
      numbers_small = f.numbers;
    }
