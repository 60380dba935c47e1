-- The lengths that the item list has for the name and for rows, and the samples, each by one computation over the whole of it.
-- Assumes nothing.
use mathlib.Core.Path.{◌≡◌, refl, ◌∙◌}
use mathlib.Core.Bool.{Bool, true, not, ◌&&◌, ◌||◌, and-eq-true_iff}
use borrow.Author.Tests.{eq-eqb, eqb-true}
use lib.Dec.{eqb, ltb}
use lib.ListN.{length}
use Rattle.logic.specs.Lists.{all, Bytes}
use Rattle.logic.proofs.Bytes.{bytes_of}
use Rattle.logic.proofs.Choice.{implied}
use Rattle.refusal.specs.Refusal.{accepted}
use Rattle.cdi_item.specs.declared.Item.{Item}
use Rattle.cdi_item.specs.Items.{items, item_of, name, name_length, analog_input, paired_module, row_length}
use Rattle.cdi_item.specs.Values.{accepted_value}
use Rattle.cdi_item.proofs.Consistent.{found, found_indexed, found-row}
use Rattle.cdi_decode.specs.Follow.{is_held, sample}

abbrev named_long : Item → Bool
named_long x = not (eqb x.code name) || eqb x.length name_length

names-long : all named_long items ≡ true
unfolding items
names-long = refl

-- a sample is a value of its item
abbrev sampled : Item → Bool
sampled x = eqb (length (sample x)) x.length && (is_held x (sample x) && all (λ b. ltb b 256) (sample x))

items-sampled : all sampled items ≡ true
unfolding items accepted_value
items-sampled = refl

module _ (x : Item) (listed : item_of x.code ≡ accepted x) where
  pub name-length : x.code ≡ name → x.length ≡ name_length
  name-length is = eqb-true x.length name_length (implied _ _ (found named_long names-long x.code x listed).0 (eq-eqb x.code name is))

  pub row-length : eqb x.code analog_input || eqb x.code paired_module ≡ true → x.length ≡ row_length
  row-length e = found-row x.code x listed (found_indexed x.code x listed ∙ e)

  sample-parts : (eqb (length (sample x)) x.length ≡ true) × (is_held x (sample x) ≡ true) × (all (λ b. ltb b 256) (sample x) ≡ true)
  sample-parts =
      let p = (and-eq-true_iff _ _).0 (found sampled items-sampled x.code x listed).0 in
      let q = (and-eq-true_iff _ _).0 p.1 in
      (p.0, q.0, q.1)

  pub sample-length : length (sample x) ≡ x.length
  sample-length = eqb-true (length (sample x)) x.length sample-parts.0

  pub sample-held : is_held x (sample x) ≡ true
  sample-held = sample-parts.1

  pub sample-bytes : Bytes (sample x)
  sample-bytes = bytes_of (sample x) sample-parts.2
