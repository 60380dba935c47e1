-- Contents are cut into the parts of the stored part that they hold. So what is read from the contents of a stored part is that part, and
-- the contents of what is read are those that it was read from.
-- Assumes nothing.
use Prim.Native.Nat.{ℕ, suc, ◌*◌, ◌<◌}
use mathlib.Core.Path.{◌≡◌, refl, sym, ap, ◌∙◌}
use mathlib.Core.List.{List, [], ◌∷◌, map, flat_map, flatten, append_assoc}
use native.Mathlib.Omega.{arith}
use native.Mathlib.Nat.{zero-add}
use lib.ListN.{length, get_or}
use lib.Seq.{ext_get_or}
use Rattle.logic.specs.Lists.{part}
use Rattle.logic.proofs.Places.{bytes_from, part_is_bytes}
use Rattle.cdi_state.specs.declared.AnalogInput.{AnalogInput}
use Rattle.cdi_state.specs.declared.Stored.{Stored}
use Rattle.cdi_state.specs.State.{input_bytes, slot_bytes, input_in, input_at, no_input, StoredLengths}
use Rattle.cdi_state.proofs.Arrays.{below_two}
use Rattle.cdi_image.specs.Image.{settings11_to15, contents_of, contents_size, settings_in, slots_in, stored_in}
use Rattle.cdi_image.proofs.Cut.{cut, cut_end, cut_flatten, flatten_cut, flatten_length, piece_length}
use Rattle.cdi_state.proofs.Rows.{input-written}
use Rattle.cdi_image.proofs.Rows.{FourLong, slots_length, slots_read, slots-written}

abbrev part_sizes : List ℕ
part_sizes = 17 ∷ 3 ∷ 4 ∷ 4 ∷ 5 ∷ 5 ∷ 5 ∷ 200 ∷ 1 ∷ []

abbrev parts_of : Stored → List (List ℕ)
parts_of t =
    t.name ∷ t.firmware ∷ t.serial ∷ t.address ∷ settings11_to15 t.settings ∷ input_bytes (input_at t.settings 1) ∷
    input_bytes (input_at t.settings 2) ∷ flat_map slot_bytes t.slots ∷ (t.settings.interrupt_mask ∷ []) ∷ []

contents_are_parts : (t : Stored) → contents_of t ≡ flatten (parts_of t)
unfolding contents_of flatten
contents_are_parts t = simp append_assoc

-- ---- written as what was read
parts_of-read : (l : List ℕ) → length l ≡ contents_size → parts_of (stored_in l) ≡ cut 0 part_sizes l
unfolding stored_in
parts_of-read l h =
    let single = sym (part_is_bytes 28 5 l (omega (arith, h))) in
    let one = input-written (part 33 5 l) (piece_length 33 5 l (omega (arith, h))) in
    let two = input-written (part 38 5 l) (piece_length 38 5 l (omega (arith, h))) in
    let slots = slots-written 40 (part 43 200 l) (piece_length 43 200 l (omega (arith, h))) in
    let last = sym (part_is_bytes 243 1 l (omega (arith, h))) in
    λ i. part 0 17 l ∷ part 17 3 l ∷ part 20 4 l ∷ part 24 4 l ∷ single i ∷ one i ∷ two i ∷ slots i ∷ last i ∷ []

pub contents_written : (l : List ℕ) → length l ≡ contents_size → contents_of (stored_in l) ≡ l
contents_written l h =
    contents_are_parts (stored_in l) ∙ ap flatten (parts_of-read l h) ∙ flatten_cut 0 part_sizes l (omega (arith, h))

-- ---- read as what was written
two_inputs : (l : List AnalogInput) → length l ≡ 2 → get_or l 0 no_input ∷ get_or l 1 no_input ∷ [] ≡ l
two_inputs l h =
    let both : List AnalogInput = get_or l 0 no_input ∷ get_or l 1 no_input ∷ [] in
    ext_get_or no_input both l (sym h) (below_two (λ i. get_or both i no_input ≡ get_or l i no_input) refl refl)

module _ (t : Stored) (inputs : length t.settings.analog_inputs ≡ 2) (forty : length t.slots ≡ 40) (f : StoredLengths t) where
  slots_four_long : FourLong t.slots
  slots_four_long i h = f.slot_address_length i (omega (arith, forty, h))

  row-length : (n : ℕ) → n < 2 → length (input_bytes (get_or t.settings.analog_inputs n no_input)) ≡ 5
  row-length n h = ap (λ (k : ℕ). suc (suc (suc k))) (f.offset_length n h)

  sizes : map length (parts_of t) ≡ part_sizes
  sizes =
      let rows = slots_length t.slots slots_four_long ∙ ap (λ (n : ℕ). 5 * n) forty in
      λ i. f.name-length i ∷ f.firmware-length i ∷ f.serial-length i ∷ f.address-length i ∷ 5 ∷
      row-length 0 (omega arith) i ∷ row-length 1 (omega arith) i ∷ rows i ∷ 1 ∷ []

  pub contents_length : length (contents_of t) ≡ contents_size
  contents_length =
      ap length (contents_are_parts t) ∙ sym (zero-add (length (flatten (parts_of t)))) ∙ flatten_length 0 (parts_of t) ∙ ap (cut_end 0) sizes

  contents_parts : cut 0 part_sizes (contents_of t) ≡ parts_of t
  contents_parts =
      ap (λ (l : List ℕ). cut 0 l (contents_of t)) (sym sizes) ∙ cut_flatten 0 (parts_of t) (contents_of t) (contents_are_parts t)

  part-read : (n : ℕ) → get_or (cut 0 part_sizes (contents_of t)) n [] ≡ get_or (parts_of t) n []
  part-read n = ap (λ (parts : List (List ℕ)). get_or parts n []) contents_parts

  settings-read : settings_in (contents_of t) ≡ t.settings
  settings-read =
      let l = contents_of t in
      let x = t.settings in
      let single : bytes_from 28 5 l ≡ settings11_to15 x = sym (part_is_bytes 28 5 l (omega (arith, contents_length))) ∙ part-read 4 in
      let last : bytes_from 243 1 l ≡ x.interrupt_mask ∷ [] = sym (part_is_bytes 243 1 l (omega (arith, contents_length))) ∙ part-read 8 in
      let rows : input_in (part 33 5 l) ∷ input_in (part 38 5 l) ∷ [] ≡ x.analog_inputs =
      (λ i. input_in (part-read 5 i) ∷ input_in (part-read 6 i) ∷ []) ∙ two_inputs x.analog_inputs inputs
      in
      λ i. record {
        line_mask = get_or (single i) 0 0;
        latch_mask = get_or (single i) 1 0;
        tx_power = get_or (single i) 2 0;
        control_source = get_or (single i) 3 0;
        message_select = get_or (single i) 4 0;
        analog_inputs = rows i;
        interrupt_mask = get_or (last i) 0 0;
      }

  slots_are_read : slots_in 40 (part 43 200 (contents_of t)) ≡ t.slots
  slots_are_read =
      ap (slots_in 40) (part-read 7) ∙ ap (λ (n : ℕ). slots_in n (flat_map slot_bytes t.slots)) (sym forty) ∙ slots_read t.slots slots_four_long

  pub contents_read : stored_in (contents_of t) ≡ t
  unfolding stored_in
  contents_read = λ i. record {
    name = part-read 0 i;
    firmware = part-read 1 i;
    serial = part-read 2 i;
    address = part-read 3 i;
    settings = settings-read i;
    slots = slots_are_read i;
  }
