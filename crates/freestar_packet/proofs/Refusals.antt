-- The reader refuses with 24, 25, 26, 27 or 28 and no other number, the writer with 27, 28 or 13.
-- Assumes nothing.
use Prim.Native.Nat.{ℕ}
use mathlib.Core.Path.{◌≡◌, refl}
use mathlib.Core.Bool.{true}
use mathlib.Core.List.{List, [], ◌∷◌}
use lib.Dec.{ltb}
use lib.ListN.{length}
use Rattle.logic.proofs.Choice.{choice}
use Rattle.refusal.specs.Refusal.{Result, accepted, refused, and_then, frame_buffer_short, packet_ends, packet_length, packet_sum, packet_content, pan_id_over}
use Rattle.refusal.proofs.Results.{among, RefusedAmong, of_refused}
use Rattle.checksum.specs.Checksum.{sum_holds, ends_hold}
use Rattle.freestar_packet.specs.Layout.{start, end, types, fits_in, sum_start, packet_bytes, pan_id_holds}
use Rattle.freestar_packet.specs.Read.{length_holds, data_in, read_frame, validated, read_packet}
use Rattle.refusal.specs.Numbers.{in_room}
use Rattle.freestar_packet.specs.Encode.{encode}

-- what is refused with one of these numbers, and then with one of them again, is refused with one of them
pub then-among : {A B : Type 0} (ms : List ℕ) (r : Result A) (next : A → Result B) → RefusedAmong ms r → ((x : A) → RefusedAmong ms (next x)) → RefusedAmong ms (and_then r next)
then-among ms (accepted x) next h k = k x
then-among ms (refused n) next h k = h

abbrev pub read_refusals : List ℕ
read_refusals = packet_ends ∷ packet_length ∷ packet_sum ∷ packet_content ∷ pan_id_over ∷ []

abbrev pub write_refusals : List ℕ
write_refusals = packet_content ∷ pan_id_over ∷ frame_buffer_short ∷ []

abbrev pub step_refusals : List ℕ
step_refusals = packet_ends ∷ packet_length ∷ packet_sum ∷ packet_content ∷ pan_id_over ∷ frame_buffer_short ∷ []

-- a frame is refused with 24, 25 or 26
pub frame-among : (ms : List ℕ) → among ms packet_ends ≡ true → among ms packet_length ≡ true → among ms packet_sum ≡ true → (block : List ℕ) → RefusedAmong ms (read_frame block)
unfolding read_frame
frame-among ms a b c block =
    choice (RefusedAmong ms) (ends_hold start end block)
    (λ _. choice (RefusedAmong ms) (length_holds block) (λ _. choice (RefusedAmong ms) (sum_holds sum_start block) (λ _. tt) (λ _. c)) (λ _. b))
    (λ _. a)

validated-among : {A : Type 0} (ms : List ℕ) → among ms packet_content ≡ true → among ms pan_id_over ≡ true → (type : ℕ) (bytes : List ℕ) (x : A)
    → RefusedAmong ms (validated type bytes x)
validated-among ms a b type bytes x =
    choice (RefusedAmong ms) (fits_in types type (length bytes)) (λ _. choice (RefusedAmong ms) (pan_id_holds type bytes) (λ _. tt) (λ _. b)) (λ _. a)

pub room-among : (ms : List ℕ) → among ms frame_buffer_short ≡ true → (room : ℕ) (packet : List ℕ) → RefusedAmong ms (in_room room packet)
room-among ms a room packet = choice (RefusedAmong ms) (ltb room (length packet)) (λ _. a) (λ _. tt)

pub read-refusal : (block : List ℕ) (n : ℕ) → read_packet block ≡ refused n → among read_refusals n ≡ true
unfolding read_packet
read-refusal block n e =
    of_refused read_refusals e
    (then-among read_refusals (read_frame block) (λ m. validated m.kind (data_in block) m) (frame-among read_refusals refl refl refl block)
    (λ m. validated-among read_refusals refl refl m.kind (data_in block) m))

pub write-refusal : (type : ℕ) (bytes : List ℕ) (room n : ℕ) → encode type bytes room ≡ refused n → among write_refusals n ≡ true
unfolding encode
write-refusal type bytes room n e =
    of_refused write_refusals e
    (then-among write_refusals (validated type bytes (packet_bytes type bytes)) (in_room room)
    (validated-among write_refusals refl refl type bytes (packet_bytes type bytes)) (room-among write_refusals refl room))
