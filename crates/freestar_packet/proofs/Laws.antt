-- The packet of an accepted message is read as that message and no other packet is read as itself; a block that is read is a packet of the
-- layout; what is written is read as that, and what is read, written again, is the same block.
-- Assumes nothing.
use Prim.Native.Nat.{ℕ, ◌+◌}
use mathlib.Core.Path.{◌≡◌, refl, sym, ap, subst, ◌∙◌}
use mathlib.Core.Bool.{true, and-eq-true_iff}
use mathlib.Core.List.{List}
use native.Mathlib.Omega.{arith}
use borrow.Author.Tests.{le-ltb}
use lib.Dec.{ltb}
use lib.ListN.{length}
use Rattle.logic.specs.Lists.{part}
use Rattle.logic.proofs.Written.{written-front}
use Rattle.refusal.specs.Refusal.{Result, accepted, refused, and_then}
use Rattle.refusal.proofs.Results.{never_both, else_refused, then-refused}
use Rattle.freestar_packet.specs.declared.Message.{Message}
use Rattle.freestar_packet.specs.Layout.{types, fits_in, overhead, start_of_data, packet_bytes, pan_id_holds, is_accepted}
use Rattle.freestar_packet.specs.Read.{data_in, read_frame, validated, read_packet, content, content_in}
use Rattle.refusal.specs.Numbers.{in_room}
use Rattle.freestar_packet.specs.Encode.{encode}
use Rattle.freestar_packet.specs.Laws.{ReadBack, ReadBackOnly, ReadIsLaidOut, WrittenIsRead, ReadIsWritten}
use Rattle.freestar_packet.proofs.Types.{fits_small}
use Rattle.freestar_packet.proofs.Frame.{packet_length_lem, data_part, data_back, packet_read, accepted-frame, data_length_is, data_within}

-- what an accepted message passes, and what has passed is accepted
pub both_tests : (type : ℕ) (bytes : List ℕ) → is_accepted type bytes ≡ true → (fits_in types type (length bytes) ≡ true) × (pan_id_holds type bytes ≡ true)
unfolding is_accepted
both_tests type bytes e = (and-eq-true_iff (fits_in types type (length bytes)) (pan_id_holds type bytes)).0 e

module _ {A : Type 0} (type : ℕ) (bytes : List ℕ) where
  pub validated-accepted : (x : A) → is_accepted type bytes ≡ true → validated type bytes x ≡ accepted x
  validated-accepted x e = let t = both_tests type bytes e in simp (t.0, t.1)

  pub passed : (x y : A) → validated type bytes x ≡ accepted y → (is_accepted type bytes ≡ true) × (x ≡ y)
  unfolding is_accepted
  passed x y e =
      let a = else_refused (fits_in types type (length bytes)) _ _ y e in
      let b = else_refused (pan_id_holds type bytes) _ _ y a.1 in
      ((and-eq-true_iff (fits_in types type (length bytes)) (pan_id_holds type bytes)).1 (a.0, b.0), cc)

-- a block that is read is a packet of whatever type, and its type and data are accepted
of_frame : (block : List ℕ) (m : Message) (r : Result Message) → read_frame block ≡ r
    → and_then r (λ x. validated x.kind (data_in block) x) ≡ accepted m
    → (read_frame block ≡ accepted m) × (is_accepted m.kind (data_in block) ≡ true)
of_frame block m (accepted x) e said =
    let p = passed x.kind (data_in block) x m said in
    (e ∙ ap accepted p.1, subst (λ (y : Message). is_accepted y.kind (data_in block) ≡ true) p.1 p.0)
of_frame block m (refused n) e said = never_both n m said

pub read_is_laid_out : ReadIsLaidOut
unfolding read_packet
read_is_laid_out block m e =
    let p = of_frame block m (read_frame block) refl e in
    let f = accepted-frame block m p.0 in
    let size = sym (data_length_is block m p.0) in
    let same : data_in block ≡ part start_of_data m.data_length block = ap (λ (n : ℕ). part start_of_data n block) size in
    let enough = f.enough in
    let small = fits_small m.kind (length (data_in block)) (both_tests m.kind (data_in block) p.1).0 in
    let long : length block ≡ overhead + length (data_in block) = ap length f.frame_is ∙ packet_length_lem m.kind (data_in block) in
    record {
      message-accepted = subst (λ (l : List ℕ). is_accepted m.kind l ≡ true) same p.1;
      packet_is = f.frame_is ∙ ap (packet_bytes m.kind) same;
      data_within = data_within block m p.0;
      data_small = omega arith;
    }

pub read_back : ReadBack
unfolding read_packet
read_back type bytes e =
    let m : Message = record { kind = type; data_length = length bytes } in
    let read : read_packet (packet_bytes type bytes) ≡ accepted m =
    rw (packet_read type bytes, data_back type bytes) (validated-accepted type bytes m e)
    in
    rw read (ap (λ (l : List ℕ). accepted (content type l)) (data_part type bytes))

-- what was read of a block that says this
of_content : (block : List ℕ) (type : ℕ) (bytes : List ℕ) (r : Result Message) → read_packet block ≡ r
    → and_then r (λ m. accepted (content_in block m)) ≡ accepted (content type bytes) → is_accepted type bytes ≡ true
of_content block type bytes (accepted m) e said =
    let same : content_in block m ≡ content type bytes = cc in
    let kind : m.kind ≡ type = cc in
    let held : part start_of_data m.data_length block ≡ bytes = cc in
    rw (← kind, ← held) (read_is_laid_out block m e).message-accepted
of_content block type bytes (refused n) e said = never_both n (content type bytes) said

pub read-back_only : ReadBackOnly
read-back_only type bytes e = of_content (packet_bytes type bytes) type bytes (read_packet (packet_bytes type bytes)) refl e

-- of what is accepted the writer looks at the room alone
pub only_room : (type : ℕ) (bytes : List ℕ) (room : ℕ) → is_accepted type bytes ≡ true → encode type bytes room ≡ in_room room (packet_bytes type bytes)
unfolding encode
only_room type bytes room e = rw (validated-accepted type bytes (packet_bytes type bytes) e)

-- the tests that an accepted call of the writer has passed, and what it gives
written_as : (type : ℕ) (bytes packet : List ℕ) (room : ℕ) (r : Result (List ℕ)) → validated type bytes (packet_bytes type bytes) ≡ r
    → and_then r (in_room room) ≡ accepted packet
    → (is_accepted type bytes ≡ true) × (packet_bytes type bytes ≡ packet)
written_as type bytes packet room (accepted p) e said =
    let a = passed type bytes (packet_bytes type bytes) p e in
    let b = then-refused (ltb room (length p)) _ _ packet said in
    (a.0, cc)
written_as type bytes packet room (refused n) e said = never_both n packet said

pub written_is_read : WrittenIsRead
unfolding encode
written_is_read type bytes buffer packet e =
    let w = written_as type bytes packet (length buffer) (validated type bytes (packet_bytes type bytes)) refl e in
    rw (e, written-front buffer packet, ← w.1) (read_back type bytes w.0)

pub read_is_written : ReadIsWritten
unfolding encode
read_is_written block m room e h =
    let l = read_is_laid_out block m e in
    let bytes = part start_of_data m.data_length block in
    rw (validated-accepted m.kind bytes (packet_bytes m.kind bytes) l.message-accepted, ← l.packet_is) (simp (le-ltb room (length block) h))
