-- The writer accepts every answer, so it gives the answer or refuses it for want of room.
-- Assumes nothing.
use Prim.Native.Nat.{ℕ}
use mathlib.Core.Path.{◌≡◌, refl, sym, ap, subst, ◌∙◌}
use mathlib.Core.Bool.{true}
use mathlib.Core.List.{List}
use native.Mathlib.Omega.{arith}
use lib.ListN.{length, length-append}
use Rattle.freestar_packet.specs.Layout.{answer_to, requests, fits_in, packet_bytes, pan_id_fits, is_accepted}
use Rattle.refusal.specs.Numbers.{in_room}
use Rattle.freestar_packet.specs.declared.Message.{Message}
use Rattle.freestar_packet.specs.Encode.{encode}
use Rattle.freestar_packet.proofs.Types.{rest_is_reset, by_type}
use Rattle.freestar_packet.proofs.Laws.{only_room}
use Rattle.freestar_settings.specs.declared.Settings.{Settings}
use Rattle.freestar_settings.specs.Settings.{ArrayLengths, address_bytes, answer_data, answer}

pub address-length : (s : Settings) → length s.long_address ≡ 8 → length s.short_address ≡ 2 → length (address_bytes s) ≡ 10
address-length s long short = omega (arith, length-append {A = ℕ})

-- the writer accepts the answer to a message of the host's
abbrev AnswerAccepted : Settings → ℕ → Type 0
AnswerAccepted s type = (size : ℕ) → fits_in requests type size ≡ true → is_accepted (answer_to type) (answer_data s type) ≡ true

pub answer-accepted : (s : Settings) → ArrayLengths s → pan_id_fits s.pan_id ≡ true → (type : ℕ) → AnswerAccepted s type
unfolding is_accepted fits_in
answer-accepted s h fits =
    by_type (AnswerAccepted s) (λ size _. refl) (λ size _. simp (h.pan_id, fits)) (λ size _. refl) (λ size _. simp (address-length s h.long-address h.short-address)) (λ size _. refl)
    (λ size _. refl)
    (λ type o size e.
    subst (λ (k : ℕ). is_accepted (answer_to k) (answer_data s k) ≡ true)
    (sym (rest_is_reset type size o.not_01 o.not_02 o.not_03 o.not_04 o.not_05 o.not_06 e)) refl)

-- what the writer is handed are the data of the answer, so it looks at the room alone
pub answer-written : (s : Settings) (type : ℕ) (bytes : List ℕ) (room : ℕ) → is_accepted (answer_to type) bytes ≡ true → bytes ≡ answer_data s type
    → encode (answer_to type) bytes room ≡ in_room room (answer s type)
unfolding answer
answer-written s type bytes room ok same =
    only_room (answer_to type) bytes room ok ∙ ap (λ (l : List ℕ). in_room room (packet_bytes (answer_to type) l)) same

-- so it is of a message that the host sends, whatever arm of `respond` hands them on
pub as-answered : (s : Settings) → ArrayLengths s → pan_id_fits s.pan_id ≡ true → (m : Message) → fits_in requests m.kind m.data_length ≡ true
    → (type : ℕ) (bytes : List ℕ) (room : ℕ) → type ≡ answer_to m.kind → bytes ≡ answer_data s m.kind → encode type bytes room ≡ in_room room (answer s m.kind)
as-answered s h fits m e type bytes room to is =
    ap (λ (k : ℕ). encode k bytes room) to ∙
    answer-written s m.kind bytes room
    (subst (λ (l : List ℕ). is_accepted (answer_to m.kind) l ≡ true) (sym is) (answer-accepted s h fits m.kind m.data_length e)) is
