-- Document 02, Ask 11: the settings as a struct, and what a message does to them. The contract of `execute` cites `step` and `result_of`; the
-- theorem on sequences holds them against the reference model.
use Rattle.std.specs.Prelude.{ℕ, ◌≡◌, cond, ◌&&◌, List, [], ◌∷◌, ◌++◌, eqb, length, get_or, take}
use Rattle.logic.specs.Lists.{part}
use Rattle.refusal.specs.Refusal.{Result, accepted, refused, and_then, packet_content, pan_id_over}
use Rattle.freestar_packet.specs.declared.Message.{Message}
use Rattle.freestar_packet.specs.Layout.{set_pan_id, query_pan_id, set_address, query_address, set_channel, query_channel, answer_to, requests, fits_in, packet_bytes, pan_id_fits, pan_id_holds}
use Rattle.freestar_packet.specs.Read.{data_in, read_frame}
use Rattle.refusal.specs.Numbers.{in_room}
use Rattle.freestar_model.specs.Model.{Delivery}
use Rattle.freestar_settings.specs.declared.Settings.{Settings}

-- the lengths that arrays have in a program
pub record ArrayLengths (s : Settings) : Type 0 where
  pub pan_id : length s.pan_id ≡ 2
  pub long-address : length s.long_address ≡ 8
  pub short-address : length s.short_address ≡ 2

abbrev pub settings : (pan_id long_address short_address : List ℕ) (channel : ℕ) → Settings
settings p l a c = record { pan_id = p; long_address = l; short_address = a; channel = c }

-- 004, messages 03 and 04: "Long Address", then "Short Address"
abbrev pub address_bytes : Settings → List ℕ
address_bytes s = s.long_address ++ s.short_address

-- what is answered: 02, 04 and 06 with what is set, the others without data
abbrev pub answer_data : Settings → (type : ℕ) → List ℕ
answer_data s type =
    cond (eqb type query_pan_id) s.pan_id
    (cond (eqb type query_address) (address_bytes s)
    (cond (eqb type query_channel) (s.channel ∷ []) []))

unfoldable pub answer : Settings → (type : ℕ) → List ℕ
answer s type = packet_bytes (answer_to type) (answer_data s type)

-- what is set: 01 the PAN ID, 03 both addresses, 05 the channel; "a reset leaves" all (house)
unfoldable pub stored : Settings → (type : ℕ) (bytes : List ℕ) → Settings
stored s type bytes =
    cond (eqb type set_pan_id) (settings (take 2 bytes) s.long_address s.short_address s.channel)
    (cond (eqb type set_address) (settings s.pan_id (take 8 bytes) (part 8 2 bytes) s.channel)
    (cond (eqb type set_channel) (settings s.pan_id s.long_address s.short_address (get_or bytes 0 0)) s))

-- 27 for a type that the host does not send, or other data; then 28 "in message or record"
abbrev pub validate_message : Settings → (bytes : List ℕ) → Message → Result Message
validate_message s bytes m =
    cond (fits_in requests m.kind (length bytes))
    (cond (pan_id_holds m.kind bytes && pan_id_fits s.pan_id) (accepted m) (refused pan_id_over))
    (refused packet_content)

-- 24, 25, 26 come before these
unfoldable pub validate : Settings → (block : List ℕ) → Result Message
validate s block = and_then (read_frame block) (validate_message s (data_in block))

-- then 13, by the length of this answer
unfoldable pub result_of : Settings → Delivery → Result (List ℕ)
result_of s x = and_then (validate s x.block) (λ m. in_room x.room (answer s m.kind))

-- a refusal changes nothing
abbrev pub settings_by : Settings → (bytes : List ℕ) → Result Message → Result (List ℕ) → Settings
settings_by s bytes (accepted m) (accepted packet) = stored s m.kind bytes
settings_by s bytes (accepted m) (refused n) = s
settings_by s bytes (refused n) r = s

unfoldable pub step : Settings → Delivery → Settings
step s x = settings_by s (data_in x.block) (validate s x.block) (result_of s x)
