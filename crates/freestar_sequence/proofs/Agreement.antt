-- What a message reads and sets by the struct's fields is what it reads and sets by the model's cells, type by type.
-- Assumes nothing.
use Prim.Native.Nat.{ℕ, ◌+◌}
use mathlib.Core.Path.{◌≡◌, refl, sym, ap, ◌∙◌}
use mathlib.Core.Bool.{true, cond}
use mathlib.Core.List.{List, [], ◌∷◌, ◌++◌, append-nil}
use native.Mathlib.Omega.{arith}
use lib.ListN.{length, get_or, take, drop, length-append, length-drop}
use lib.Seq.{length-take-le}
use Rattle.freestar_packet.specs.Layout.{set_pan_id, set_address, set_channel, answer_to, requests, fits_in, overhead}
use Rattle.freestar_packet.proofs.Types.{by_type, pan_id_size, address-size, channel-size}
use Rattle.freestar_packet.proofs.Frame.{packet_length_lem}
use Rattle.freestar_model.specs.Cells.{Cell, pan_id_cell, long_address_cell, short_address_cell, channel, size, is_in, action_of, read_by, stored_by, total, joined, cut}
use Rattle.freestar_settings.specs.declared.Settings.{Settings}
use Rattle.freestar_settings.specs.Settings.{ArrayLengths, answer_data, answer, stored}
use Rattle.freestar_sequence.specs.Machine.{cells}

-- the data of the answer are the cells that are read
pub data_agree : (s : Settings) (type : ℕ) → answer_data s type ≡ joined (cells s) (read_by (action_of type))
data_agree s =
    by_type (λ type. answer_data s type ≡ joined (cells s) (read_by (action_of type)))
    refl (sym (append-nil s.pan_id)) refl (ap (λ (l : List ℕ). s.long_address ++ l) (sym (append-nil s.short_address))) refl refl
    (λ type o. simp (o.not_01, o.not_02, o.not_03, o.not_04, o.not_05, o.not_06))

-- what is stored in a cell is what it is given
abbrev Stores : Settings → List ℕ → ℕ → Type 0
Stores s bytes type =
    fits_in requests type (length bytes) ≡ true → (c : Cell)
    → cells (stored s type bytes) c ≡ cond (is_in (stored_by (action_of type)) c) (cut (stored_by (action_of type)) bytes c) (cells s c)

one_byte : (bytes : List ℕ) → length bytes ≡ 1 → get_or bytes 0 0 ∷ [] ≡ take 1 bytes
one_byte [] e = absurd (omega arith)
one_byte (b ∷ []) e = refl
one_byte (b ∷ c ∷ bytes) e = absurd (omega arith)

pub stored-agree : (s : Settings) (bytes : List ℕ) (type : ℕ) → Stores s bytes type
unfolding stored
stored-agree s bytes =
    by_type (Stores s bytes) (λ fits c. pan_id c) (λ fits c. same c) (λ fits c. addresses c) (λ fits c. same c) (λ fits c. channels fits c) (λ fits c. same c)
    (λ type o fits c. simp (o.not_01, o.not_02, o.not_03, o.not_04, o.not_05, o.not_06))
  where
    same : (c : Cell) → cells s c ≡ cells s c
    same c = refl

    pan_id : (c : Cell) → cells (stored s set_pan_id bytes) c ≡ cond (is_in (pan_id_cell ∷ []) c) (cut (pan_id_cell ∷ []) bytes c) (cells s c)
    pan_id pan_id_cell = refl
    pan_id long_address_cell = refl
    pan_id short_address_cell = refl
    pan_id channel = refl

    addresses : (c : Cell)
        → cells (stored s set_address bytes) c ≡ cond (is_in (long_address_cell ∷ short_address_cell ∷ []) c) (cut (long_address_cell ∷ short_address_cell ∷ []) bytes c) (cells s c)
    addresses pan_id_cell = refl
    addresses long_address_cell = refl
    addresses short_address_cell = refl
    addresses channel = refl

    channels : fits_in requests set_channel (length bytes) ≡ true → (c : Cell)
        → cells (stored s set_channel bytes) c ≡ cond (is_in (channel ∷ []) c) (cut (channel ∷ []) bytes c) (cells s c)
    channels fits pan_id_cell = refl
    channels fits long_address_cell = refl
    channels fits short_address_cell = refl
    channels fits channel = one_byte bytes (channel-size (length bytes) fits)

-- each cell holds as many bytes as the model says
pub cell_size : (s : Settings) → ArrayLengths s → (c : Cell) → length (cells s c) ≡ size c
cell_size s h pan_id_cell = h.pan_id
cell_size s h long_address_cell = h.long-address
cell_size s h short_address_cell = h.short-address
cell_size s h channel = refl

joined-size : (s : Settings) → ArrayLengths s → (cs : List Cell) → length (joined (cells s) cs) ≡ total cs
joined-size s h [] = refl
joined-size s h (c ∷ cs) = omega (arith, length-append (cells s c) (joined (cells s) cs), cell_size s h c, joined-size s h cs)

-- so the length of the answer is the model's
pub answer-length : (s : Settings) → ArrayLengths s → (type : ℕ) → length (answer s type) ≡ overhead + total (read_by (action_of type))
unfolding answer
answer-length s h type =
    packet_length_lem (answer_to type) (answer_data s type) ∙ ap (λ (l : List ℕ). overhead + length l) (data_agree s type) ∙
    ap (λ (n : ℕ). overhead + n) (joined-size s h (read_by (action_of type)))

-- the arrays keep their lengths
abbrev Lengths : Settings → List ℕ → ℕ → Type 0
Lengths s bytes type = fits_in requests type (length bytes) ≡ true → ArrayLengths (stored s type bytes)

pub lengths-kept : (s : Settings) → ArrayLengths s → (bytes : List ℕ) (type : ℕ) → Lengths s bytes type
unfolding stored
lengths-kept s h bytes =
    by_type (Lengths s bytes)
    (λ fits. record {
      pan_id = length-take-le 2 bytes (omega (arith, pan_id_size (length bytes) fits));
      long-address = h.long-address;
      short-address = h.short-address;
    })
    (λ fits. h)
    (λ fits. record {
      pan_id = h.pan_id;
      long-address = length-take-le 8 bytes (omega (arith, address-size (length bytes) fits));
      short-address = length-take-le 2 (drop 8 bytes) (omega (arith, address-size (length bytes) fits, length-drop 8 bytes));
    })
    (λ fits. h)
    (λ fits. record { pan_id = h.pan_id; long-address = h.long-address; short-address = h.short-address })
    (λ fits. h)
    (λ type o fits. rw (o.not_01, o.not_03, o.not_05) h)
