-- A packet is read as its type and data, whatever they are, and a block that is read is the packet of its own type and data.
-- Assumes nothing.
use Prim.Native.Nat.{ℕ, suc, ◌+◌, ◌-◌, ◌≤◌}
use mathlib.Core.Path.{◌≡◌, refl, sym, ap, ◌∙◌}
use mathlib.Core.Bool.{Bool, true, false, cond, and-eq-true_iff}
use mathlib.Core.List.{List, [], ◌∷◌}
use native.Mathlib.Omega.{arith}
use borrow.Author.Tests.{le-leb, leb-true, eq-eqb, eqb-true}
use lib.Dec.{eqb, leb}
use lib.ListN.{length, get_or, take}
use lib.Seq.{length-take-le}
use Rattle.logic.specs.Lists.{part}
use Rattle.refusal.specs.Refusal.{Result, accepted, refused, and_then, packet_content, pan_id_over}
use Rattle.refusal.proofs.Results.{else_refused}
use Rattle.checksum.specs.Checksum.{summed, sum_holds, ends_hold}
use Rattle.checksum.proofs.Laws.{summed-length, ends-written, ends_are, summed-after, written_passes, passes_as_written}
use Rattle.freestar_packet.specs.declared.Message.{Message}
use Rattle.freestar_packet.specs.Layout.{start, end, types, fits_in, overhead, start_of_data, front, sum_start, packet_bytes, pan_id_holds}
use Rattle.freestar_packet.specs.Read.{length_holds, data_in, message_of, read_frame, validated, read_packet}

module _ (type : ℕ) (bytes : List ℕ) where
  pub packet_length_lem : length (packet_bytes type bytes) ≡ overhead + length bytes
  unfolding packet_bytes
  packet_length_lem = omega (arith, summed-length sum_start end (front type bytes))

  pub data_part : part start_of_data (length bytes) (packet_bytes type bytes) ≡ bytes
  unfolding packet_bytes
  data_part = summed-after sum_start end (start ∷ (overhead + length bytes) ∷ type ∷ []) bytes

  pub data_back : data_in (packet_bytes type bytes) ≡ bytes
  data_back =
      let n : length (packet_bytes type bytes) - overhead ≡ length bytes = omega (arith, packet_length_lem) in
      ap (λ (k : ℕ). part start_of_data k (packet_bytes type bytes)) n ∙ data_part

  ends_hold_lem : ends_hold start end (packet_bytes type bytes) ≡ true
  unfolding packet_bytes
  ends_hold_lem = ends-written sum_start start end ((overhead + length bytes) ∷ type ∷ bytes)

  length-holds : length_holds (packet_bytes type bytes) ≡ true
  unfolding packet_bytes
  length-holds =
      simp (
        le-leb overhead (length (packet_bytes type bytes)) (omega (arith, packet_length_lem)),
        eq-eqb (overhead + length bytes) (length (packet_bytes type bytes)) (omega (arith, packet_length_lem)),
      )

  sum_holds_lem : sum_holds sum_start (packet_bytes type bytes) ≡ true
  unfolding packet_bytes
  sum_holds_lem = written_passes sum_start end (front type bytes)

  message-back : message_of (packet_bytes type bytes) ≡ record { kind = type; data_length = length bytes }
  unfolding packet_bytes
  message-back =
      let n : length (packet_bytes type bytes) - overhead ≡ length bytes = omega (arith, packet_length_lem) in
      ap (λ (k : ℕ). record { kind = type; data_length = k }) n

  -- a packet is read as its type and how many data it has
  pub packet_read : read_frame (packet_bytes type bytes) ≡ accepted (record { kind = type; data_length = length bytes })
  unfolding read_frame
  packet_read = simp (ends_hold_lem, length-holds, sum_holds_lem) (ap accepted message-back)

-- the front of a block, by its length byte
front_of : (block : List ℕ) → overhead ≤ length block → get_or block 1 0 ≡ length block → get_or block 0 0 ≡ start
    → take (length block - 2) block ≡ front (get_or block 2 0) (data_in block)
front_of [] h l e = absurd (omega arith)
front_of (a ∷ []) h l e = absurd (omega arith)
front_of (a ∷ b ∷ []) h l e = absurd (omega arith)
front_of (a ∷ b ∷ c ∷ rest) h l e =
    let n : length (a ∷ b ∷ c ∷ rest) - 2 ≡ suc (suc (suc (length rest - 2))) = omega arith in
    let size : length (a ∷ b ∷ c ∷ rest) - overhead ≡ length rest - 2 = omega arith in
    let long : overhead + length (take (length rest - 2) rest) ≡ b = omega (arith, length-take-le (length rest - 2) rest (omega arith)) in
    rw (n, size, long, e)

-- what is known of a block that is read as a packet of whatever type
pub record Framed (block : List ℕ) (m : Message) : Type 0 where
  pub message_is : m ≡ message_of block
  pub enough : overhead ≤ length block
  pub size_is : get_or block 1 0 ≡ length block
  pub frame_is : block ≡ packet_bytes m.kind (data_in block)

pub accepted-frame : (block : List ℕ) (m : Message) → read_frame block ≡ accepted m → Framed block m
unfolding read_frame packet_bytes
accepted-frame block m e =
    let a = else_refused (ends_hold start end block) _ _ m e in
    let b = else_refused (length_holds block) _ _ m a.1 in
    let c = else_refused (sum_holds sum_start block) _ _ m b.1 in
    let ends = ends_are start end block a.0 in
    let sized = (and-eq-true_iff (leb overhead (length block)) (eqb (get_or block 1 0) (length block))).0 b.0 in
    let low = leb-true overhead (length block) sized.0 in
    let size = eqb-true (get_or block 1 0) (length block) sized.1 in
    let whole = passes_as_written sum_start block c.0 in
    let is : message_of block ≡ m = cc in
    let before = front_of block low size ends.0 in
    record {
      message_is = cc;
      enough = low;
      size_is = size;
      frame_is =
          whole ∙ ap (λ (z : ℕ). summed sum_start z (take (length block - 2) block)) ends.1 ∙ ap (summed sum_start end) before ∙
          ap (λ (x : Message). packet_bytes x.kind (data_in block)) is;
    }

-- the data of a block that is read lie in it, and they are what a reader hands on
module _ (block : List ℕ) (m : Message) (e : read_frame block ≡ accepted m) where
  pub data_length_is : m.data_length ≡ length block - overhead
  data_length_is = ap (λ (x : Message). x.data_length) (accepted-frame block m e).message_is

  pub data_size : length (data_in block) ≡ m.data_length
  data_size =
      let long : length block ≡ overhead + length (data_in block) =
      ap length (accepted-frame block m e).frame_is ∙ packet_length_lem m.kind (data_in block)
      in
      omega (arith, data_length_is)

  pub data_within : start_of_data + m.data_length ≤ length block
  data_within = omega (arith, (accepted-frame block m e).enough, data_length_is)

  pub data_handed : part start_of_data m.data_length block ≡ data_in block
  data_handed = ap (λ (n : ℕ). part start_of_data n block) data_length_is

-- what a validation says
abbrev pub Validated : (said : Result (Unit {0})) (type : ℕ) (bytes : List ℕ) → Type 0
Validated said type bytes = said ≡ validated type bytes tt

-- it holds of any value that comes after it
module _ {A : Type 0} (x : A) where
  one_choice : (fit holds : Bool)
      → and_then {A = Unit {0}} (cond fit (cond holds (accepted tt) (refused pan_id_over)) (refused packet_content)) (λ _. accepted x)
      ≡ cond fit (cond holds (accepted x) (refused pan_id_over)) (refused packet_content)
  one_choice true true = refl
  one_choice true false = refl
  one_choice false holds = refl

  validated_then : (type : ℕ) (bytes : List ℕ) (r : Result (Unit {0})) → Validated r type bytes → validated type bytes x ≡ and_then r (λ _. accepted x)
  validated_then type bytes r e = rw e (sym (one_choice (fits_in types type (length bytes)) (pan_id_holds type bytes)))

  pub validated_ok : (type : ℕ) (bytes : List ℕ) → Validated (accepted tt) type bytes → validated type bytes x ≡ accepted x
  validated_ok type bytes e = validated_then type bytes (accepted tt) e

  pub validated_err : (type : ℕ) (bytes : List ℕ) (n : ℕ) → Validated (refused n) type bytes → validated type bytes x ≡ refused n
  validated_err type bytes n e = validated_then type bytes (refused n) e

-- a block is read as a packet where its frame is read and its data are validated
module _ (block : List ℕ) (m : Message) (e : accepted m ≡ read_frame block) where
  read_data : read_packet block ≡ validated m.kind (part start_of_data m.data_length block) m
  unfolding read_packet
  read_data = rw (← e, data_handed block m (sym e))

  pub framed_ok : Validated (accepted tt) m.kind (part start_of_data m.data_length block) → read_packet block ≡ accepted m
  framed_ok v = read_data ∙ validated_ok m m.kind (part start_of_data m.data_length block) v

  pub framed_err : (n : ℕ) → Validated (refused n) m.kind (part start_of_data m.data_length block) → read_packet block ≡ refused n
  framed_err n v = read_data ∙ validated_err m m.kind (part start_of_data m.data_length block) n v
