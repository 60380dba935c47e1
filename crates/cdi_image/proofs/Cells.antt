-- The contents of an image are its cells, one behind the other; and after a Load a cell is as it was stored, or as the power-up stores
-- it, or as it was before.
-- Assumes nothing.
use Prim.Native.Nat.{ℕ, zero, suc, ◌≤◌, ◌<◌}
use mathlib.Core.Path.{◌≡◌, refl, sym, ap, ◌∙◌}
use mathlib.Core.Bool.{cond}
use mathlib.Core.List.{List, [], ◌∷◌, ◌++◌, map, flat_map, append_assoc, append-nil}
use native.Mathlib.Omega.{arith}
use lib.ListN.{length, get_or, take}
use lib.Seq.{take-suc, take_all}
use Rattle.logic.specs.Lists.{below}
use Rattle.cdi_state.specs.declared.ModuleState.{ModuleState}
use Rattle.cdi_state.specs.State.{input_bytes, slot_bytes, input_at, no_slot}
use Rattle.cdi_store.specs.Store.{state_at_power_up}
use Rattle.cdi_model.specs.Cells.{nv, working, setting, interrupt_mask_code, input, slot, address, name, firmware, serial, lines, rssi, ladj, events, flags, hardwarePower, hardwareLineMask, hardwareLatchMask, Cell, copy_of, single}
use Rattle.cdi_model.specs.Table.{power_up_stores}
use Rattle.cdi_model.specs.Model.{power_up_gives}
use Rattle.cdi_module.specs.Machine.{cells}
use Rattle.cdi_image.specs.Image.{settings11_to15, contents_of, with_stored}
use Rattle.cdi_image.specs.Laws.{in_image, ContentsAreCells}

module _ {A : Type 0} (f : A → List ℕ) where
  flat_map_append : (l m : List A) → flat_map f (l ++ m) ≡ flat_map f l ++ flat_map f m
  unfolding flat_map
  flat_map_append [] m = refl
  flat_map_append (x ∷ l) m = ap (λ (t : List ℕ). f x ++ t) (flat_map_append l m) ∙ sym (append_assoc (f x) (flat_map f l) (flat_map f m))

  flat_map_map : {B : Type 0} (g : B → A) (l : List B) → flat_map f (map g l) ≡ flat_map (λ x. f (g x)) l
  unfolding flat_map
  flat_map_map g [] = refl
  flat_map_map g (x ∷ l) = ap (λ (t : List ℕ). f (g x) ++ t) (flat_map_map g l)

  pub flat_map_next : (l : List A) (d : A) (n : ℕ) → n < length l → flat_map f (take (suc n) l) ≡ flat_map f (take n l) ++ f (get_or l n d)
  unfolding flat_map
  flat_map_next l d n h =
      let x = get_or l n d in
      ap (flat_map f) (take-suc l n d h) ∙ flat_map_append (take n l) (x ∷ []) ∙ ap (λ (t : List ℕ). flat_map f (take n l) ++ t) (append-nil (f x))

  -- what stands at the indexes below n is the first n
  flat_map_below : (l : List A) (d : A) (n : ℕ) (rest : List ℕ) → n ≤ length l
      → flat_map (λ i. f (get_or l i d)) (below n rest) ≡ flat_map f (take n l) ++ flat_map (λ i. f (get_or l i d)) rest
  unfolding flat_map
  flat_map_below l d zero rest h = refl
  flat_map_below l d (suc n) rest h =
      let others : List ℕ = flat_map (λ i. f (get_or l i d)) rest in
      flat_map_below l d n (n ∷ rest) (omega (arith, h))
      ∙ rw (flat_map_next l d n h) (sym (append_assoc (flat_map f (take n l)) (f (get_or l n d)) others))

abbrev slot_cells : List Cell
slot_cells = map (λ i. copy_of nv (slot i)) (below 40 [])

slots_are_cells : (s : ModuleState) → length s.stored.slots ≡ 40 → flat_map (cells s) slot_cells ≡ flat_map slot_bytes s.stored.slots
unfolding cells flat_map
slots_are_cells s h =
    let slots = s.stored.slots in
    flat_map_map (cells s) (λ i. copy_of nv (slot i)) (below 40 [])
    ∙ flat_map_below slot_bytes slots no_slot 40 [] (omega (arith, h))
    ∙ append-nil (flat_map slot_bytes (take 40 slots))
    ∙ ap (flat_map slot_bytes) (take_all 40 slots (omega (arith, h)))

pub contents_are_cells : ContentsAreCells
unfolding contents_of cells flat_map
contents_are_cells s h =
    let t = s.stored in
    let x = t.settings in
    let row : ℕ → List ℕ = λ n. input_bytes (input_at x n) in
    let before : List ℕ → List ℕ = λ l. t.name ++ (t.firmware ++ (t.serial ++ (t.address ++ (settings11_to15 x ++ (row 1 ++ (row 2 ++ l)))))) in
    sym (ap before (flat_map_append (cells s) slot_cells (copy_of nv (setting interrupt_mask_code) ∷ []))
    ∙ ap (λ (l : List ℕ). before (l ++ x.interrupt_mask ∷ [])) (slots_are_cells s h)
    ∙ simp append_assoc)

-- t with what s has stored, and then powered up
pub cells-after : (t s : ModuleState) (c : Cell)
    → let u = state_at_power_up (with_stored t s.stored) in
    cells u c ≡ cond (in_image c) (cells s c) (cond (power_up_stores c) (power_up_gives (cells u) c) (cells t c))
unfolding cells
cells-after t s (copy_of nv (setting x)) = refl
cells-after t s (copy_of nv (input n)) = refl
cells-after t s (copy_of nv (slot i)) = refl
cells-after t s (copy_of nv address) = refl
cells-after t s (copy_of working (setting x)) = refl
cells-after t s (copy_of working (input n)) = refl
cells-after t s (copy_of working (slot i)) = refl
cells-after t s (copy_of working address) = refl
cells-after t s (single name) = refl
cells-after t s (single firmware) = refl
cells-after t s (single serial) = refl
cells-after t s (single lines) = refl
cells-after t s (single rssi) = refl
cells-after t s (single ladj) = refl
cells-after t s (single events) = refl
cells-after t s (single flags) = refl
cells-after t s (single hardwarePower) = refl
cells-after t s (single hardwareLineMask) = refl
cells-after t s (single hardwareLatchMask) = refl
