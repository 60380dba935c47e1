-- Parts that lie one after the other in a packet: how many bytes they have, one more of them, and the packet behind all.
-- Assumes nothing.
use Rattle.std.proofs.Common.{◌≡◌, ℕ, ◌+◌, ◌<◌, ◌≤◌, List, [], ◌∷◌, ◌++◌, length, get_or, take, drop, ap, sym, ◌∙◌, arith, length-append, take-append-drop, set, subst, append_assoc, Bor}
use Rattle.std.proofs.lemmas.List.{take_more, append-nil}
use Rattle.std.proofs.lemmas.List.Concat.{flat_map-append, length-flat_map}
use Rattle.std.specs.List.{sum_by}
use Rattle.logic.specs.Written.{Writes, written, length_in, written_in}
use Rattle.logic.proofs.Written.{part_from, with_part, writes-front}
use Rattle.byte_copy.proofs.Copied.{copied_behind}
use Rattle.checksum.specs.Checksum.{sum_from}
use Rattle.checksum.proofs.Laws.{summed-length, summed-written}
use Rattle.coyote_packet.specs.Layout.{start, end, low_first, front, sum_start, packet_bytes}
use Rattle.coyote_packet.specs.Read.{overhead}
use Rattle.coyote_encode.specs.Encode.{joined}

module _ (parts : List (Bor (List ℕ))) where
  pub joined_size : length (joined parts) ≡ sum_by (λ part. length part.now) parts
  joined_size = length-flat_map (λ part. part.now) parts

  joined_more : (i : ℕ) (d : Bor (List ℕ)) → i < length parts → joined (take (i + 1) parts) ≡ joined (take i parts) ++ (get_or parts i d).now
  joined_more i d h =
      rw (take_more parts i d h, flat_map-append (λ (part : Bor (List ℕ)). part.now) (take i parts) (get_or parts i d ∷ []), append-nil)

  joined-most : (i : ℕ) → length (joined (take i parts)) ≤ length (joined parts)
  joined-most i =
      let whole = ap joined (take-append-drop i parts) in
      let apart = flat_map-append (λ (part : Bor (List ℕ)). part.now) (take i parts) (drop i parts) in
      omega (arith, length-append (joined (take i parts)) (joined (drop i parts)), ap length (sym apart ∙ whole))

  -- part i is copied behind a head and the parts before it: the packet so far, and the room that it leaves
  pub one-more : (head : List ℕ) {s t after : List ℕ} {i n m size : ℕ} (d : Bor (List ℕ)) → i < length parts → size ≡ length (joined parts)
      → Writes (head ++ joined (take i parts)) s t n → length head + size ≤ length s
      → (m ≡ length_in (part_from n t) (get_or parts i d).now) × (after ≡ written_in (part_from n t) (get_or parts i d).now)
      → Writes (head ++ joined (take (i + 1) parts)) s (with_part n t after) (n + m) × (n + m ≤ length head + size)
  one-more head {s} {t} {after} {i} {n} {m} {size} d h all w room e =
      let part = (get_or parts i d).now in
      let so_far = joined (take i parts) in
      let more = joined_more i d h in
      let fits : length so_far + length part ≤ size = omega (arith, joined-most (i + 1), ap length more, length-append so_far part) in
      let copied = copied_behind part w (omega (arith, length-append head so_far)) e in
      let same : (head ++ so_far) ++ part ≡ head ++ joined (take (i + 1) parts) = append_assoc head so_far part ∙ ap (λ (l : List ℕ). head ++ l) (sym more) in (
        subst (λ (l : List ℕ). Writes l s (with_part n t after) (n + m)) same copied,
        omega (arith, copied.size, length-append (head ++ so_far) part, length-append head so_far),
      )

-- the sum and the last byte behind all parts make up the packet
pub finished : (kind size : ℕ) (payload : List ℕ) {n sum : ℕ} {s t : List ℕ} → size ≡ length payload → Writes (start ∷ kind ∷ (low_first size ++ payload)) s t n → overhead + size ≤ length s
    → sum ≡ sum_from sum_start (take n t) → Writes (packet_bytes kind payload) s (set (set t n sum) (n + 1) end) (n + 2)
unfolding packet_bytes
finished kind size payload {n} {sum} {s} {t} all w room e =
    let f = front kind payload in
    let same : start ∷ kind ∷ (low_first size ++ payload) ≡ f = ap (λ (k : ℕ). start ∷ kind ∷ (low_first k ++ payload)) all in
    let v = subst (λ (l : List ℕ). Writes l s t n) same w in
    record {
      size = omega (arith, v.size, summed-length sum_start end f);
      over =
          ap (λ (x : ℕ). set (set t n x) (n + 1) end) (e ∙ ap (sum_from sum_start) (writes-front v)) ∙
          ap (λ (l : List ℕ). set (set l n (sum_from sum_start f)) (n + 1) end) v.over ∙
          ap (λ (k : ℕ). set (set (written s f) k (sum_from sum_start f)) (k + 1) end) v.size ∙
          summed-written sum_start end s f (omega (arith, v.size));
    }
