-- Neighbours that are apart, and two that are not, as blocks on the factory cells: the exchange is about steps that there are.
-- Assumes nothing.
use Prim.Native.Nat.{ℕ, ◌+◌}
use mathlib.Core.Path.{◌≡◌, refl}
use mathlib.Core.Bool.{false}
use mathlib.Core.List.{List, [], ◌∷◌}
use lib.ListN.{length, replicate}
use Rattle.logic.specs.Lists.{all_below}
use Rattle.sequence.specs.Model.{Apart}
use Rattle.cdi_frame.specs.Frame.{wakes, length_at, read_frame}
use Rattle.cdi_item.specs.Items.{items, item_in, item_of}
use Rattle.cdi_item.specs.Values.{accepted_value}
use Rattle.cdi_command.specs.Command.{select, command_on, parse_item, is_served, is_head_length_right, parse_payload, validate_payload}
use Rattle.cdi_model.specs.Cells.{nv, working, tx_power_code, message_select_code, setting, Cell, copy_of}
use Rattle.cdi_model.specs.Step.{request, Step, power_up, command}
use Rattle.cdi_model.specs.Action.{read, read_nv, action_of}
use Rattle.cdi_model.specs.Table.{stores}
use Rattle.cdi_model.specs.Model.{model, is_valid, decide, decide_payload, decide_block, gives}
use Rattle.cdi_model.proofs.Lawful.{refused-reads-none}
use Rattle.cdi_model.proofs.Apart.{refused-first, refused-second, two-reads, two-writes, status_and_write, status_not_apart}
use Rattle.cdi_model.specs.Factory.{factory_cells}

-- a payload's frame with a response buffer
abbrev block : List ℕ → Step
block payload = command (request (0x80 ∷ 0x55 ∷ (0x80 + length payload) ∷ payload) (replicate 22 0xFF))

abbrev read_status_block : Step
read_status_block = block (0x01 ∷ 0x23 ∷ [])

abbrev write_block : ℕ → ℕ → Step
write_block item byte = block (0x02 ∷ item ∷ byte ∷ [])

abbrev refused_block : Step
refused_block = write_block 0x15 0x07

pub record Witnesses : Type 0 where
  -- a Write of 15 with 07, which is refused: it reads no cell, and it is apart from a power-up behind it and before it
  pub refused-reads_no_cell : (c : Cell) → model.reads (decide factory_cells refused_block) c ≡ false
  pub refused_and_power_up : Apart model factory_cells refused_block power_up
  pub power_up_and_refused : Apart model factory_cells power_up refused_block
  -- a Read and a Read NV of 15
  pub reads : Apart model factory_cells (block (0x01 ∷ 0x15 ∷ [])) (block (0x03 ∷ 0x15 ∷ []))
  -- Writes of 13 and of 15
  pub writes : Apart model factory_cells (write_block 0x13 0xEC) (write_block 0x15 0x03)
  -- a Read of 23 and a Write of 15; but not with a Write of 14
  pub status_and_15 : Apart model factory_cells read_status_block (write_block 0x15 0x03)
  pub status_and_14 : Apart model factory_cells read_status_block (write_block 0x14 0x01) → ⊥

pub witnesses : Witnesses
unfolding items item_in item_of accepted_value wakes length_at read_frame select command_on parse_item is_served is_head_length_right parse_payload validate_payload
    action_of stores all_below is_valid decide decide_payload decide_block gives
witnesses = record {
  refused-reads_no_cell = refused-reads-none factory_cells refused_block refl;
  refused_and_power_up = refused-first factory_cells refused_block power_up refl;
  power_up_and_refused = refused-second factory_cells power_up refused_block refl;
  reads =
      two-reads factory_cells (block (0x01 ∷ 0x15 ∷ [])) (block (0x03 ∷ 0x15 ∷ [])) (0x01 ∷ 0x15 ∷ []) (0x03 ∷ 0x15 ∷ [])
      (read (copy_of working (setting message_select_code))) (read_nv (copy_of nv (setting message_select_code))) refl refl refl refl;
  writes =
      two-writes factory_cells (write_block 0x13 0xEC) (write_block 0x15 0x03) (0x02 ∷ 0x13 ∷ 0xEC ∷ []) (0x02 ∷ 0x15 ∷ 0x03 ∷ [])
      (setting tx_power_code) (setting message_select_code) (0xEC ∷ []) (0x03 ∷ []) refl refl refl;
  status_and_15 =
      status_and_write factory_cells read_status_block (write_block 0x15 0x03) (0x01 ∷ 0x23 ∷ []) (0x02 ∷ 0x15 ∷ 0x03 ∷ []) (0x03 ∷ []) refl refl;
  status_and_14 =
      status_not_apart factory_cells read_status_block (write_block 0x14 0x01) (0x01 ∷ 0x23 ∷ []) (0x02 ∷ 0x14 ∷ 0x01 ∷ []) (0x01 ∷ []) refl refl;
}
