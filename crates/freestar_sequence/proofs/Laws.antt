-- The theorem on sequences, and what it says of messages in the yard's own words.
-- Assumes nothing.
use Prim.Native.Nat.{ℕ, ◌+◌}
use mathlib.Core.Path.{◌≡◌, refl, sym, ap, subst, ◌∙◌, fun_ext}
use mathlib.Core.Bool.{true, ◌&&◌, false≢true}
use mathlib.Core.List.{List, ◌∷◌, ◌++◌, append-nil}
use native.Mathlib.Omega.{arith}
use borrow.Author.Tests.{ne_eqb}
use lib.Dec.{eqb, ltb}
use lib.ListN.{length, take, drop, length-drop, take-append-drop}
use lib.Seq.{take_all}
use Rattle.logic.proofs.Choice.{choice, by_cases}
use Rattle.logic.proofs.Written.{written-front}
use Rattle.sequence.specs.Model.{stores_in}
use Rattle.sequence.specs.Machine.{run}
use Rattle.sequence.proofs.Theorem.{sequence-claims, run_admissible}
use Rattle.refusal.specs.Refusal.{Result, accepted, refused, and_then}
use Rattle.refusal.proofs.Results.{never_both, then-refused, RefusedAmong, of_refused}
use Rattle.freestar_packet.specs.declared.Message.{Message}
use Rattle.freestar_packet.specs.Layout.{set_pan_id, set_address, set_channel, answer_to, requests, fits_in, overhead, packet_bytes, pan_id_fits, pan_id_holds, is_accepted}
use Rattle.freestar_packet.specs.Read.{data_in, read_frame}
use Rattle.refusal.specs.Numbers.{in_room}
use Rattle.freestar_packet.proofs.Types.{by_type, pan_id_size, address-size, channel-size}
use Rattle.freestar_packet.proofs.Frame.{accepted-frame}
use Rattle.freestar_packet.proofs.Laws.{read_back}
use Rattle.freestar_packet.proofs.Refusals.{then-among, step_refusals, frame-among, room-among}
use Rattle.freestar_model.specs.Cells.{Cell, pan_id_cell, long_address_cell, short_address_cell, channel, is_in, Setting, network, address, frequency, cells_of, Action, set, query, reset, action_of, read_by, stored_by, total, joined, cut}
use Rattle.freestar_model.specs.Model.{Delivery, Decision, execute, decide_frame, decide, stores, given as gave, model}
use Rattle.freestar_model.proofs.Lawful.{lawful, fits_kept, joined_same}
use Rattle.freestar_settings.specs.declared.Settings.{Settings}
use Rattle.freestar_settings.specs.Settings.{ArrayLengths, answer_data, answer, stored, validate_message, validate, result_of, settings_by, step}
use Rattle.freestar_settings.proofs.Accepted.{Valid, validated}
use Rattle.freestar_settings.proofs.Answers.{answer-accepted}
use Rattle.freestar_sequence.specs.Machine.{cells, machine}
use Rattle.freestar_sequence.specs.Laws.{type_of, set_type, query_type, SequenceTheorem, AnswerIsRead, LastSetIsTold, SetIsTold, OnlySets, OtherTypes, ResetLeaves, RefusedLeaves, PanIdKept, RefusalNumbers}
use Rattle.freestar_sequence.proofs.Agreement.{data_agree}
use Rattle.freestar_sequence.proofs.Follows.{decided, cells_are, follows}

pub sequence_theorem : SequenceTheorem
sequence_theorem s h xs = sequence-claims model machine lawful follows s h xs

-- ---- one message
-- what is known of a message that is answered
pub record Answered (s : Settings) (x : Delivery) (packet : List ℕ) : Type 0 where
  pub message : Message
  pub valid : Valid s x.block message
  pub type_is : message.kind ≡ type_of x
  pub packet_is : packet ≡ answer s (type_of x)
  pub step_is : step s x ≡ stored s (type_of x) (data_in x.block)
  pub decision_is : ArrayLengths s → decide (cells s) x ≡ execute (type_of x) (data_in x.block) (action_of (type_of x))

of_valid : (s : Settings) (x : Delivery) (packet : List ℕ) (r : Result Message) → validate s x.block ≡ r
    → and_then r (λ m. in_room x.room (answer s m.kind)) ≡ accepted packet → Answered s x packet
unfolding step result_of
of_valid s x packet (refused n) v e = never_both n packet e
of_valid s x packet (accepted m) v e =
    let valid = validated s x.block m v in
    let type : m.kind ≡ type_of x = ap (λ (y : Message). y.kind) (accepted-frame x.block m valid.framed).message_is in
    let room = then-refused (ltb x.room (length (answer s m.kind))) _ _ packet e in
    let same : answer s m.kind ≡ packet = cc in
    record {
      message = m;
      valid = valid;
      type_is = type;
      packet_is = sym same ∙ ap (answer s) type;
      step_is = rw (v, room.0) (ap (λ (k : ℕ). stored s k (data_in x.block)) type);
      decision_is = λ h. decided s h x ∙ rw (v, room.0) (ap (λ (k : ℕ). execute k (data_in x.block) (action_of k)) type);
    }

pub answered_as : (s : Settings) (x : Delivery) (packet : List ℕ) → result_of s x ≡ accepted packet → Answered s x packet
unfolding result_of
answered_as s x packet e = of_valid s x packet (validate s x.block) refl e

-- a refusal leaves the settings
unchanged : (s : Settings) (bytes : List ℕ) (r : Result Message) (n : ℕ) → settings_by s bytes r (refused n) ≡ s
unchanged s bytes (accepted m) n = refl
unchanged s bytes (refused k) n = refl

pub refused-leaves : RefusedLeaves
unfolding step
refused-leaves s x n e = rw e (unchanged s (data_in x.block) (validate s x.block) n)

-- what holds of the settings themselves, and of what each accepted message makes of them, holds after every step
after-step : (P : Settings → Type 0) (s : Settings) (x : Delivery) → P s → P (stored s (type_of x) (data_in x.block)) → P (step s x)
after-step P s x kept anew = by_result (result_of s x) refl
  where
    by_result : (r : Result (List ℕ)) → result_of s x ≡ r → P (step s x)
    by_result (accepted packet) e = subst P (sym (answered_as s x packet e).step_is) anew
    by_result (refused n) e = subst P (sym (refused-leaves s x n e)) kept

pub reset-leaves : ResetLeaves
unfolding stored
reset-leaves s x type = after-step (λ t. t ≡ s) s x refl (rw type)

-- of the messages that set something each changes its own fields
module _ (s : Settings) (type : ℕ) (bytes : List ℕ) where
  pan_id_left : (type ≡ set_pan_id → ⊥) → (stored s type bytes).pan_id ≡ s.pan_id
  unfolding stored
  pan_id_left other =
      rw (ne_eqb type set_pan_id other)
      (by_cases (eqb type set_address) (λ t. rw t) (λ f. rw f (by_cases (eqb type set_channel) (λ t. rw t) (λ f. rw f))))

  addresses-left : (type ≡ set_address → ⊥)
      → ((stored s type bytes).long_address ≡ s.long_address) × ((stored s type bytes).short_address ≡ s.short_address)
  unfolding stored
  addresses-left other =
      rw (ne_eqb type set_address other)
      (by_cases (eqb type set_pan_id) (λ t. rw t (refl, refl)) (λ f. rw f (by_cases (eqb type set_channel) (λ t. rw t (refl, refl)) (λ f. rw f (refl, refl)))))

  channel-left : (type ≡ set_channel → ⊥) → (stored s type bytes).channel ≡ s.channel
  unfolding stored
  channel-left other =
      rw (ne_eqb type set_channel other)
      (by_cases (eqb type set_pan_id) (λ t. rw t) (λ f. rw f (by_cases (eqb type set_address) (λ t. rw t) (λ f. rw f))))

pub only_sets : OnlySets
only_sets s x =
    let bytes = data_in x.block in (
      λ other. after-step (λ t. t.pan_id ≡ s.pan_id) s x refl (pan_id_left s (type_of x) bytes other),
      λ other. after-step (λ t. (t.long_address ≡ s.long_address) × (t.short_address ≡ s.short_address)) s x (refl, refl)
          (addresses-left s (type_of x) bytes other),
      λ other. after-step (λ t. t.channel ≡ s.channel) s x refl (channel-left s (type_of x) bytes other),
    )

pub pan_id_kept : PanIdKept
pan_id_kept s x h = (ap pan_id_fits (cells_are s h x pan_id_cell) ∙ fits_kept (cells s) x, λ packet e. (answered_as s x packet e).valid.settings_hold)

pub answer_is_read : AnswerIsRead
unfolding answer
answer_is_read s x buffer packet h e =
    let a = answered_as s x packet e in
    let ok = answer-accepted s h a.valid.settings_hold a.message.kind (length (data_in x.block)) a.valid.fitting in
    rw (e, written-front buffer packet, a.packet_is)
    (read_back (answer_to (type_of x)) (answer_data s (type_of x)) (subst (λ (k : ℕ). is_accepted (answer_to k) (answer_data s k) ≡ true) a.type_is ok))

-- the numbers of refusals
message-among : (s : Settings) (bytes : List ℕ) (m : Message) → RefusedAmong step_refusals (validate_message s bytes m)
message-among s bytes m =
    choice (RefusedAmong step_refusals) (fits_in requests m.kind (length bytes))
    (λ _. choice (RefusedAmong step_refusals) (pan_id_holds m.kind bytes && pan_id_fits s.pan_id) (λ _. tt) (λ _. refl))
    (λ _. refl)

pub refusal-numbers : RefusalNumbers
unfolding result_of validate
refusal-numbers s x n e =
    of_refused step_refusals e
    (then-among step_refusals (validate s x.block) (λ m. in_room x.room (answer s m.kind))
    (then-among step_refusals (read_frame x.block) (validate_message s (data_in x.block)) (frame-among step_refusals refl refl refl x.block)
    (message-among s (data_in x.block)))
    (λ m. room-among step_refusals refl x.room (answer s m.kind)))

-- ---- sequences
-- the answer after a sequence shows the cells as they are then
shown : (s : Settings) (x : Delivery) (packet : List ℕ) → result_of s x ≡ accepted packet
    → packet ≡ packet_bytes (answer_to (type_of x)) (joined (cells s) (read_by (action_of (type_of x))))
unfolding answer
shown s x packet e = (answered_as s x packet e).packet_is ∙ ap (packet_bytes (answer_to (type_of x))) (data_agree s (type_of x))

pub last-set_is_told : LastSetIsTold
last-set_is_told s xs x packet h e =
    shown (run model machine s xs) x packet e ∙
    ap (λ (held : Cell → List ℕ). packet_bytes (answer_to (type_of x)) (joined held (read_by (action_of (type_of x)))))
    (fun_ext (sequence_theorem s h xs).last_store)

-- each cell is of one setting
abbrev setting_of : Cell → Setting
setting_of pan_id_cell = network
setting_of long_address_cell = address
setting_of short_address_cell = address
setting_of channel = frequency

of_one : (k : Setting) (c : Cell) → is_in (cells_of k) c ≡ true → k ≡ setting_of c
of_one network pan_id_cell e = refl
of_one network long_address_cell e = absurd (false≢true e)
of_one network short_address_cell e = absurd (false≢true e)
of_one network channel e = absurd (false≢true e)
of_one address pan_id_cell e = absurd (false≢true e)
of_one address long_address_cell e = refl
of_one address short_address_cell e = refl
of_one address channel e = absurd (false≢true e)
of_one frequency pan_id_cell e = absurd (false≢true e)
of_one frequency long_address_cell e = absurd (false≢true e)
of_one frequency short_address_cell e = absurd (false≢true e)
of_one frequency channel e = refl

-- so what stores in a cell of a setting sets that setting
sets_it : (a : Action) (k : Setting) (c : Cell) → is_in (stored_by a) c ≡ true → is_in (cells_of k) c ≡ true → a ≡ set k
sets_it (set j) k c e f = ap set (of_one j c e ∙ sym (of_one k c f))
sets_it (query j) k c e f = absurd (false≢true e)
sets_it reset k c e f = absurd (false≢true e)

-- the model stores by the message's type
abbrev StoresAs : Delivery → Cell → Decision → Type 0
StoresAs x c d = stores d c ≡ true → is_in (stored_by (action_of (type_of x))) c ≡ true

stores_as : (s : Cell → List ℕ) (x : Delivery) (c : Cell) → StoresAs x c (decide s x)
unfolding decide
stores_as s x c = by_frame (read_frame x.block) refl
  where
    by_frame : (r : Result Message) → read_frame x.block ≡ r → StoresAs x c (decide_frame (pan_id_fits (s pan_id_cell)) x r)
    by_frame (refused n) e = λ in_c. absurd (false≢true in_c)
    by_frame (accepted m) e =
        let type : m.kind ≡ type_of x = ap (λ (y : Message). y.kind) (accepted-frame x.block m e).message_is in
        choice (StoresAs x c) (fits_in requests m.kind (length (data_in x.block)))
        (λ _. choice (StoresAs x c) (pan_id_holds m.kind (data_in x.block) && pan_id_fits (s pan_id_cell))
        (λ _. choice (StoresAs x c) (ltb x.room (overhead + total (read_by (action_of m.kind))))
        (λ _ in_c. absurd (false≢true in_c))
        (λ _ in_c. subst (λ (k : ℕ). is_in (stored_by (action_of k)) c ≡ true) type in_c))
        (λ _ in_c. absurd (false≢true in_c)))
        (λ _ in_c. absurd (false≢true in_c))

-- a message that sets a setting has that setting's type
abbrev SetTypes : ℕ → Action → Type 0
SetTypes type (set k) = type ≡ set_type k
SetTypes type (query k) = Unit {0}
SetTypes type reset = Unit {0}

set-types : (type : ℕ) → SetTypes type (action_of type)
set-types =
    by_type (λ type. SetTypes type (action_of type)) refl tt refl tt refl tt
    (λ type o. rw (o.not_01, o.not_02, o.not_03, o.not_04, o.not_05, o.not_06) tt)

pub other-types : OtherTypes
other-types s xs k none c of-k before x rest e =
    let held = cells (run model machine s before) in
    by_cases (stores_in model held x c)
    (λ t. absurd (none before x rest e (subst (SetTypes (type_of x)) (sets_it (action_of (type_of x)) k c (stores_as held x c t) of-k) (set-types (type_of x)))))
    (λ f. f)

set_action : (k : Setting) → action_of (set_type k) ≡ set k
set_action network = refl
set_action address = refl
set_action frequency = refl

query_action : (k : Setting) → action_of (query_type k) ≡ query k
query_action network = refl
query_action address = refl
query_action frequency = refl

-- the data of a set, cut into its cells and put together again
together : (k : Setting) (bytes : List ℕ) → length bytes ≡ total (cells_of k) → joined (cut (cells_of k) bytes) (cells_of k) ≡ bytes
together network bytes e = append-nil (take 2 bytes) ∙ take_all 2 bytes (omega arith)
together address bytes e =
    ap (λ (l : List ℕ). take 8 bytes ++ l) (append-nil (take 2 (drop 8 bytes)) ∙ take_all 2 (drop 8 bytes) (omega (arith, length-drop 8 bytes))) ∙
    take-append-drop 8 bytes
together frequency bytes e = append-nil (take 1 bytes) ∙ take_all 1 bytes (omega arith)

-- a set has as many data as its cells hold
abbrev SetSize : ℕ → Action → Type 0
SetSize n (set k) = n ≡ total (cells_of k)
SetSize n (query k) = Unit {0}
SetSize n reset = Unit {0}

set-size : (n type : ℕ) → fits_in requests type n ≡ true → SetSize n (action_of type)
set-size n =
    by_type (λ type. fits_in requests type n ≡ true → SetSize n (action_of type))
    (pan_id_size n) (λ _. tt) (address-size n) (λ _. tt) (channel-size n) (λ _. tt)
    (λ type o e. rw (o.not_01, o.not_02, o.not_03, o.not_04, o.not_05, o.not_06) tt)

pub set_is_told : SetIsTold
set_is_told s before between x q k answer packet h e of-set none e' of-query =
    let is_set = ap action_of of-set ∙ set_action k in
    let is-query = ap action_of of-query ∙ query_action k in
    let then = run model machine s before in
    let now = run model machine s (before ++ x ∷ between) in
    let bytes = data_in x.block in
    let a = answered_as then x answer e in
    let decision : decide (cells then) x ≡ execute (type_of x) bytes (set k) =
    a.decision_is (run_admissible model machine lawful follows s before h) ∙ ap (execute (type_of x) bytes) is_set
    in
    let held : (c : Cell) → is_in (cells_of k) c ≡ true → cells now c ≡ cut (cells_of k) bytes c =
    λ c of-k.
    (sequence_theorem s h (before ++ x ∷ between)).stored_last before x between c refl (ap (λ (d : Decision). stores d c) decision ∙ of-k) (none c of-k) ∙
    ap (λ (d : Decision). gave d c) decision
    in
    let size : length bytes ≡ total (cells_of k) =
    subst (SetSize (length bytes)) is_set
    (subst (λ (type : ℕ). SetSize (length bytes) (action_of type)) a.type_is (set-size (length bytes) a.message.kind a.valid.fitting))
    in
    shown now q packet e' ∙
    ap (λ (b : Action). packet_bytes (answer_to (type_of q)) (joined (cells now) (read_by b))) is-query ∙
    ap (packet_bytes (answer_to (type_of q))) (joined_same (cut (cells_of k) bytes) (cells now) (cells_of k) held ∙ together k bytes size) ∙
    ap (λ (type : ℕ). packet_bytes (answer_to type) bytes) of-query
