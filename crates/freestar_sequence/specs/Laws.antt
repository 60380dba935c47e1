-- Document 02, Ask 11: what holds of messages on settings, one by one and in sequences. The statements alone; `proofs/` has their proofs.
use Rattle.std.specs.Prelude.{ℕ, ◌≡◌, true, List, [], ◌∷◌, ◌++◌, eqb, get_or, take}
use Rattle.logic.specs.Lists.{any}
use Rattle.sequence.specs.Model.{last_or}
use Rattle.sequence.specs.Machine.{run, given, NoneStores, Claims}
use Rattle.refusal.specs.Refusal.{accepted, refused, outcome_of, buffer_after, frame_buffer_short, packet_ends, packet_length, packet_sum, packet_content, pan_id_over}
use Rattle.freestar_packet.specs.Layout.{set_pan_id, query_pan_id, set_address, query_address, set_channel, query_channel, reset, answer_to, packet_bytes, pan_id_fits}
use Rattle.freestar_packet.specs.Read.{data_in, content, read_content}
use Rattle.freestar_model.specs.Cells.{Cell, is_in, Setting, network, address, frequency, cells_of, action_of, read_by, joined}
use Rattle.freestar_model.specs.Model.{Delivery, model}
use Rattle.freestar_settings.specs.declared.Settings.{Settings}
use Rattle.freestar_settings.specs.Settings.{ArrayLengths, answer_data, step, result_of}
use Rattle.freestar_sequence.specs.Machine.{cells, machine}

-- the type of a step's message
abbrev pub type_of : Delivery → ℕ
type_of x = get_or x.block 2 0

-- the message that sets a setting, and the one that asks for it
abbrev pub set_type : Setting → ℕ
set_type network = set_pan_id
set_type address = set_address
set_type frequency = set_channel

abbrev pub query_type : Setting → ℕ
query_type network = query_pan_id
query_type address = query_address
query_type frequency = query_channel

-- For every list of blocks, each with the length of a response buffer of its own, from all settings: all that `Claims` says of the machine
-- beside the reference model. So every cell and every answer are the model's, each cell holds what the last accepted set gave it, or its first
-- value, and neighbours that share no cell can be exchanged. `ArrayLengths` asks for what settings in a program always have:
-- `Settings::array_lengths` of the crate freestar_settings has it as its contract.
abbrev pub SequenceTheorem : Type 0
SequenceTheorem = (s : Settings) → ArrayLengths s → (xs : List Delivery) → Claims model machine s xs

-- what is answered is read as the answer to that message, with what is set
abbrev pub AnswerIsRead : Type 0
AnswerIsRead =
    (s : Settings) (x : Delivery) (buffer packet : List ℕ)
    → ArrayLengths s
    → result_of s x ≡ accepted packet
    → read_content (take (outcome_of (result_of s x)).length (buffer_after (result_of s x) buffer))
    ≡ accepted (content (answer_to (type_of x)) (answer_data s (type_of x)))

-- after any sequence a query is answered with what the last accepted set gave each of its cells, or with what they held at first
abbrev pub LastSetIsTold : Type 0
LastSetIsTold =
    (s : Settings) (xs : List Delivery) (x : Delivery) (packet : List ℕ)
    → ArrayLengths s
    → result_of (run model machine s xs) x ≡ accepted packet
    → packet ≡ packet_bytes (answer_to (type_of x)) (joined (λ c. last_or (cells s c) (given model machine s xs c)) (read_by (action_of (type_of x))))

-- so a query after a set gives back what was set, whatever comes between that does not set it
abbrev pub SetIsTold : Type 0
SetIsTold =
    (s : Settings) (before between : List Delivery) (x q : Delivery) (k : Setting) (answer packet : List ℕ)
    → ArrayLengths s
    → result_of (run model machine s before) x ≡ accepted answer
    → type_of x ≡ set_type k
    → ((c : Cell) → is_in (cells_of k) c ≡ true → NoneStores model machine (step (run model machine s before) x) between c)
    → result_of (run model machine s (before ++ x ∷ between)) q ≡ accepted packet
    → type_of q ≡ query_type k
    → packet ≡ packet_bytes (answer_to (query_type k)) (data_in x.block)

-- only message 01 changes the PAN ID, 03 the addresses, 05 the channel
abbrev pub OnlySets : Type 0
OnlySets =
    (s : Settings) (x : Delivery)
    → ((type_of x ≡ set_pan_id → ⊥) → (step s x).pan_id ≡ s.pan_id)
    × ((type_of x ≡ set_address → ⊥) → ((step s x).long_address ≡ s.long_address) × ((step s x).short_address ≡ s.short_address))
    × ((type_of x ≡ set_channel → ⊥) → (step s x).channel ≡ s.channel)

-- in a sequence without a message of the type that sets it, nothing stores in a setting's cells
abbrev pub OtherTypes : Type 0
OtherTypes =
    (s : Settings) (xs : List Delivery) (k : Setting)
    → ((before : List Delivery) (x : Delivery) (rest : List Delivery) → xs ≡ before ++ x ∷ rest → type_of x ≡ set_type k → ⊥)
    → (c : Cell)
    → is_in (cells_of k) c ≡ true
    → NoneStores model machine s xs c

-- "a reset leaves" the settings (house)
abbrev pub ResetLeaves : Type 0
ResetLeaves = (s : Settings) (x : Delivery) → type_of x ≡ reset → step s x ≡ s

-- a refusal changes nothing
abbrev pub RefusedLeaves : Type 0
RefusedLeaves = (s : Settings) (x : Delivery) (n : ℕ) → result_of s x ≡ refused n → step s x ≡ s

-- no message changes whether the PAN ID has 14 bits, and none is accepted on one that has more
abbrev pub PanIdKept : Type 0
PanIdKept =
    (s : Settings) (x : Delivery)
    → ArrayLengths s
    → (pan_id_fits (step s x).pan_id ≡ pan_id_fits s.pan_id)
    × ((packet : List ℕ) → result_of s x ≡ accepted packet → pan_id_fits s.pan_id ≡ true)

-- a message is refused with 24, 25, 26, 27, 28 or 13, and with no other number
abbrev pub RefusalNumbers : Type 0
RefusalNumbers =
    (s : Settings) (x : Delivery) (n : ℕ)
    → result_of s x ≡ refused n
    → any (eqb n) (packet_ends ∷ packet_length ∷ packet_sum ∷ packet_content ∷ pan_id_over ∷ frame_buffer_short ∷ []) ≡ true
