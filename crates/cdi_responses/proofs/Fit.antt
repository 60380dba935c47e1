-- A value that a cell can hold, and cells that hold such values: the factory's, some of which one is replaced, and a valid state's.
-- Assumes nothing.
use Prim.Native.Nat.{ℕ}
use mathlib.Core.Path.{◌≡◌, refl, sym, ◌∙◌}
use mathlib.Core.Bool.{Bool, true, false, cond, ◌&&◌, and-eq-true_iff}
use mathlib.Core.List.{List, [], ◌∷◌}
use native.Mathlib.Omega.{arith}
use borrow.Author.Tests.{eqb-true, ltb-true}
use lib.Dec.{eqb, ltb}
use lib.ListN.{length, get_or, length-append}
use Rattle.logic.specs.Lists.{all, Bytes}
use Rattle.logic.proofs.Bytes.{bytes_of}
use Rattle.logic.proofs.Choice.{choice}
use Rattle.cdi_state.specs.declared.Settings.{Settings}
use Rattle.cdi_state.specs.declared.ModuleState.{ModuleState}
use Rattle.cdi_state.specs.State.{input_bytes, input_at, no_slot, OffsetLengths}
use Rattle.cdi_model.specs.Cells.{nv, working, setting, input, slot, address, name, firmware, serial, lines, rssi, ladj, events, flags, hardwarePower, hardwareLineMask, hardwareLatchMask, Cell, copy_of, single, is_key, is_cell, same}
use Rattle.cdi_model.specs.Model.{Cells}
use Rattle.cdi_model.specs.Factory.{factory_single, factory_cells}
use Rattle.cdi_model.specs.Tight.{every_cell}
use Rattle.cdi_model.proofs.Keys.{width}
use Rattle.cdi_model.proofs.Cells.{same_eq}
use Rattle.cdi_model.proofs.Apart.{at_cell}
use Rattle.cdi_model.proofs.Tight.{every_cell_lem}
use Rattle.cdi_model.proofs.Validity.{takes, each-input, valid-takes}
use Rattle.cdi_module.specs.Machine.{cells}
use Rattle.cdi_module.proofs.Validity.{validity_agrees}
use Rattle.cdi_responses.specs.Held.{ValidState}

-- the bytes of a cell's value
abbrev pub cell_length : Cell → ℕ
cell_length (copy_of copy k) = width k
cell_length (single x) = length (factory_single x)

-- a value that a cell can hold: of its length, accepted, and of bytes
pub record Fits (c : Cell) (v : List ℕ) : Type 0 where
  pub sized : length v ≡ cell_length c
  pub taken : takes c v ≡ true
  pub bytes : Bytes v

-- every cell holds such a value
abbrev pub AllFit : Cells → Type 0
AllFit f = (c : Cell) → is_cell c ≡ true → Fits c (f c)

-- ---- the factory's cells
-- the same as a test
abbrev fits : Cell → List ℕ → Bool
fits c v = eqb (length v) (cell_length c) && (takes c v && all (λ b. ltb b 256) v)

tested : (c : Cell) (v : List ℕ) → fits c v ≡ true → Fits c v
tested c v e =
    let p = (and-eq-true_iff (eqb (length v) (cell_length c)) (takes c v && all (λ b. ltb b 256) v)).0 e in
    let q = (and-eq-true_iff (takes c v) (all (λ b. ltb b 256) v)).0 p.1 in
    record { sized = eqb-true (length v) (cell_length c) p.0; taken = q.0; bytes = bytes_of v q.1 }

-- each of the 68 cells passes it
all_tested : all (λ c. fits c (factory_cells c)) every_cell ≡ true
unfolding every_cell
all_tested = refl

pub factory_fits : AllFit factory_cells
factory_fits c there = tested c (factory_cells c) (at_cell (λ d. fits d (factory_cells d)) every_cell c all_tested (every_cell_lem c there))

-- ---- cells of which one is replaced
abbrev pub put : Cell → List ℕ → Cells → Cells
put d v f = λ c. cond (same c d) v (f c)

pub put-fits : (d : Cell) (v : List ℕ) (f : Cells) → Fits d v → AllFit f → AllFit (put d v f)
put-fits d v f h fit c there = choice (Fits c) (same c d) (λ e. rw (same_eq c d e) h) (λ _. fit c there)

-- ---- a valid state's cells
input-length : (t : Settings) → OffsetLengths t → (n : ℕ) → is_key (input n) ≡ true → length (input_bytes (input_at t n)) ≡ 5
input-length t offsets =
    each-input (λ n. length (input_bytes (input_at t n)) ≡ 5) (omega (arith, offsets 0 (omega arith))) (omega (arith, offsets 1 (omega arith)))

module _ (s : ModuleState) (v : ValidState s) where
  -- each has its length
  length-right : (c : Cell) → is_cell c ≡ true → length (cells s c) ≡ cell_length c
  unfolding cells
  length-right (copy_of nv (setting x)) e = refl
  length-right (copy_of nv (input n)) e = input-length s.stored.settings v.field_lengths.stored-lengths.offset_length n e
  length-right (copy_of nv (slot i)) e =
      let x = get_or s.stored.slots i no_slot in
      omega (arith, length-append x.address (x.mask ∷ []), v.field_lengths.stored-lengths.slot_address_length i (ltb-true i 40 e))
  length-right (copy_of nv address) e = v.field_lengths.stored-lengths.address-length
  length-right (copy_of working (setting x)) e = refl
  length-right (copy_of working (input n)) e =
      input-length s.working.settings v.field_lengths.working_offset_length n ((and-eq-true_iff (is_key (input n)) true).0 e).0
  length-right (copy_of working (slot i)) e = cc ((and-eq-true_iff (is_key (slot i)) false).0 e).1
  length-right (copy_of working address) e = cc
  length-right (single name) e = v.field_lengths.stored-lengths.name-length
  length-right (single firmware) e = v.field_lengths.stored-lengths.firmware-length
  length-right (single serial) e = v.field_lengths.stored-lengths.serial-length
  length-right (single lines) e = v.field_lengths.lines-length
  length-right (single rssi) e = v.field_lengths.rssi-length
  length-right (single ladj) e = refl
  length-right (single events) e = refl
  length-right (single flags) e = refl
  length-right (single hardwarePower) e = refl
  length-right (single hardwareLineMask) e = refl
  length-right (single hardwareLatchMask) e = refl

  pub valid-fits : AllFit (cells s)
  valid-fits c there = record {
    sized = length-right c there;
    taken = valid-takes (cells s) (sym (validity_agrees s v.array_lengths) ∙ v.valid) c there;
    bytes = v.in_bytes c there;
  }
