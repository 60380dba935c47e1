-- What a read command reads from a valid state is what its item can hold, and all that it can hold is read from some valid state.
-- Assumes nothing.
use Prim.Native.Nat.{ℕ}
use mathlib.Core.Path.{◌≡◌, refl, sym, ap, ◌∙◌}
use mathlib.Core.List.{List}
use Rattle.cdi_command.specs.declared.Command.{Command}
use Rattle.cdi_state.specs.declared.ModuleState.{ModuleState}
use Rattle.cdi_model.specs.Model.{Cells, shown as shownOf, status_of}
use Rattle.cdi_model.specs.Factory.{factory_cells}
use Rattle.cdi_model.proofs.Cells.{same_refl}
use Rattle.cdi_module.specs.Machine.{cells}
use Rattle.cdi_decode.specs.Follow.{value_item}
use Rattle.cdi_responses.specs.Held.{ValidState, Held, Holds, Witness, EveryStateHolds, EachIsHeld}
use Rattle.cdi_responses.proofs.Fit.{factory_fits, put, put-fits, valid-fits}
use Rattle.cdi_responses.proofs.State.{state_of, cells-back, state-valid}
use Rattle.cdi_responses.proofs.Sources.{ReadBy, from_cell, from-status, read_by}
use Rattle.cdi_responses.proofs.Status.{status-accepted, status-bytes, status_cells, status-fits, status-back}

-- ---- from a state: the bytes are those of the cell, or the status itself
module _ (s : ModuleState) (v : ValidState s) (c : Command) where
  holds : ReadBy c → Holds s c
  holds (from_cell d there agrees value) =
      let fit = valid-fits s v d there in
      let e = agrees (cells s d) in
      record {
        bytes = cells s d;
        is_held_lem = record { full = fit.sized ∙ sym e.0; held = e.1 ∙ fit.taken; bytes = fit.bytes };
        what_is_read = value s ∙ sym e.2;
      }
  holds (from-status agrees value) =
      let fit = valid-fits s v in
      let e = agrees (status_of (cells s)) in
      record {
        bytes = status_of (cells s);
        is_held_lem = record { full = sym e.0; held = e.1 ∙ status-accepted (cells s) fit; bytes = status-bytes (cells s) fit };
        what_is_read = value s ∙ sym e.2;
      }

pub every_state_holds : EveryStateHolds
every_state_holds s v c p r = holds s v c (read_by c p r)

-- ---- to a state: it is made of the factory's cells, with the bytes in the cell that is read, or in the cells that the status shows
-- a state shows the status of the cells that it is made of
status-shown : (f : Cells) → status_of (cells (state_of f)) ≡ status_of f
unfolding cells
status-shown f = refl

module _ (c : Command) (w : List ℕ) (h : Held (value_item c) w) where
  witness : ReadBy c → Witness c w
  witness (from_cell d there agrees value) =
      let e = agrees w in
      let f = put d w factory_cells in
      let fit = put-fits d w factory_cells (record { sized = h.full ∙ e.0; taken = sym e.1 ∙ h.held; bytes = h.bytes }) factory_fits in
      record {
        state = state_of f;
        is_valid_lem = state-valid f fit;
        what_is_read = value (state_of f) ∙ ap (shownOf d) (cells-back f fit d there ∙ rw (same_refl d)) ∙ sym e.2;
      }
  witness (from-status agrees value) =
      let e = agrees w in
      let f = status_cells w in
      record {
        state = state_of f;
        is_valid_lem = state-valid f (status-fits w (sym e.1 ∙ h.held) h.bytes);
        what_is_read = value (state_of f) ∙ status-shown f ∙ status-back w (h.full ∙ e.0) h.bytes ∙ sym e.2;
      }

pub each_is_held : EachIsHeld
each_is_held c p r w h = witness c w h (read_by c p r)
