-- Document 02, Ask 10: "an import that gives both back", and of what no export gives nothing. The statements alone; their proofs are in
-- `proofs/Laws.antt`.
use Rattle.std.specs.Prelude.{ℕ, ◌≡◌, List, length}
use Rattle.logic.specs.Lists.{Bytes}
use Rattle.refusal.specs.Refusal.{accepted}
use Rattle.coyote_charge.specs.declared.Charge.{Charge}
use Rattle.coyote_charge.specs.Charge.{export_charge, import_charge}

-- an export is imported as what was exported, input number and readout
abbrev pub ExportIsImported : Type 0
ExportIsImported =
    (sequence group address : ℕ) (targets : List ℕ) (c : Charge) (room : ℕ) (block : List ℕ)
    → export_charge sequence group address targets c room ≡ accepted block
    → import_charge block ≡ accepted c

-- a block that is an export of a charge
pub record Exported (block : List ℕ) (c : Charge) : Type 0 where
  pub sequence : ℕ
  pub group : ℕ
  pub address : ℕ
  pub targets : List ℕ
  pub export_is : export_charge sequence group address targets c (length block) ≡ accepted block

-- what is imported was exported: no other block is accepted
abbrev pub ImportWasExported : Type 0
ImportWasExported = (block : List ℕ) (c : Charge) → Bytes block → import_charge block ≡ accepted c → Exported block c
