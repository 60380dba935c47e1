-- What the parts that `read_addressed` takes of a payload say of it.
-- Assumes nothing.
use Rattle.std.proofs.Common.{◌≡◌, ℕ, ◌+◌, ◌-◌, ◌*◌, ◌%◌, ◌≤◌, true, List, length, get_or, take, drop, refl, ap, sym, ◌∙◌, arith, get_or-drop, length-drop, le-leb, eq-eqb}
use Rattle.std.proofs.lemmas.List.{take_all}
use lib.Seq.{drop-drop}
use Rattle.refusal.specs.Refusal.{accepted}
use Rattle.coyote_packet.specs.Layout.{sequences, targets_before, targets_max, targets_end, fit_data}
use Rattle.coyote_packet.specs.Read.{payload_start, word_at, addressed_case, end_at, read_addressed}

-- what follows the first k bytes, as a pattern has it
rest-all : (k : ℕ) (l : List ℕ) → take (length l - k) (drop k l) ≡ drop k l
rest-all k l = take_all (length l - k) (drop k l) (omega (arith, length-drop k l))

module _ (kind : ℕ) (payload after : List ℕ) (n start size : ℕ) where
  abbrev rest : List ℕ
  rest = take (length payload - 2) (drop 2 payload)

  pub found : n ≡ targets_before (1 + targets_max) rest → 1 ≤ n → n ≤ targets_max → after ≡ take (length rest - 2 * n) (drop (2 * n) rest)
      → get_or after 0 0 ≡ targets_end → start ≡ payload_start + end_at n + 3 → size ≡ get_or after 1 0 + 256 * get_or after 2 0
      → length after ≡ 3 + size → fit_data kind size ≡ true
      → read_addressed kind payload ≡ accepted (addressed_case kind (record {
        sequence = kind % sequences;
        source_group = get_or payload 0 0;
        source_address = get_or payload 1 0;
        target_count = n;
        data_start = start;
        data_length = size;
      }))
  unfolding read_addressed
  found counted some few is ends place word long fit =
      let all : after ≡ drop (end_at n) payload =
      is ∙ rest-all (2 * n) rest ∙ ap (drop (2 * n)) (rest-all 2 payload) ∙ drop-drop (2 * n) 2 payload
      in
      let at = λ (i : ℕ). ap (λ (l : List ℕ). get_or l i 0) all ∙ get_or-drop (end_at n) payload i 0 in
      let zero : end_at n + 0 ≡ end_at n = omega arith in
      let two : end_at n + 2 ≡ end_at n + 1 + 1 = omega arith in
      let same : word_at payload (end_at n + 1) ≡ size = sym (word ∙ rw (at 1, at 2, two)) in
      let eoa : get_or payload (end_at n) 0 ≡ targets_end = ap (λ (i : ℕ). get_or payload i 0) (sym zero) ∙ sym (at 0) ∙ ends in
      let whole : end_at n + 3 + word_at payload (end_at n + 1) ≡ length payload = omega (arith, ap length all, length-drop (end_at n) payload, same) in
      let fits : fit_data kind (word_at payload (end_at n + 1)) ≡ true = rw same fit in
      let found : targets_before (1 + targets_max) (drop 2 payload) ≡ n = ap (targets_before (1 + targets_max)) (sym (rest-all 2 payload)) ∙ sym counted in
      rw found
      (simp (
        le-leb 1 n some,
        le-leb n targets_max few,
        eq-eqb (end_at n + 3 + word_at payload (end_at n + 1)) (length payload) whole,
        eq-eqb (get_or payload (end_at n) 0) targets_end eoa,
        fits,
      ) (rw (same, ← place) refl))
