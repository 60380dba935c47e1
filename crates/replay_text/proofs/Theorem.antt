-- The text of the replay program is the reference model's: line by line the machine's results are what is printed, they are the model's by
-- the sequence theorem, and the factory state's cells are the factory cells.
-- Assumes nothing.
use Prim.Native.Nat.{ℕ}
use mathlib.Core.Path.{◌≡◌, refl, sym, ap, ◌∙◌}
use mathlib.Core.List.{List, [], ◌∷◌, ◌++◌, map}
use Rattle.sequence.specs.Model.{results as modelResults}
use Rattle.sequence.specs.Machine.{results}
use Rattle.hex_text.specs.Hex.{Line, block, not_hex, hex_line}
use Rattle.response_text.specs.Text.{printed}
use Rattle.cdi_state.specs.declared.ModuleState.{ModuleState}
use Rattle.cdi_state.specs.State.{factory_state}
use Rattle.cdi_valid.proofs.Laws.{factory_valid}
use Rattle.cdi_model.specs.Step.{Step}
use Rattle.cdi_model.specs.Model.{model}
use Rattle.cdi_model.specs.Factory.{factory_cells}
use Rattle.cdi_model.proofs.Lawful.{results_by_real_cells}
use Rattle.cdi_model.proofs.Examples.{factory_valid as factory-cells-valid}
use Rattle.cdi_module.specs.Machine.{cells, machine}
use Rattle.cdi_module.proofs.Factory.{factory_cells_lem, factory_lengths}
use Rattle.cdi_module.proofs.Theorem.{sequence_theorem}
use Rattle.cdi_module.proofs.Validity.{validity_agrees}
use Rattle.replay_text.specs.Replay.{lines, line_text, line_state, lines_text}
use Rattle.replay_text.specs.Theorem.{steps, texts, ReplayTheorem}

-- the text of the machine's results
abbrev machine_text : ModuleState → List Line → List ℕ
machine_text s ls = texts ls (results model machine s (steps ls))

-- it begins with the text of the first line
first-text : (s : ModuleState) (line : Line) (rest : List Line) → printed (line_text s line) ++ machine_text (line_state s line) rest ≡ machine_text s (line ∷ rest)
unfolding texts steps results
first-text s not_hex rest = refl
first-text s (block bytes) rest = refl

-- so it is what is printed
machine-text : (s : ModuleState) (ls : List (List ℕ)) → lines_text s ls ≡ machine_text s (map hex_line ls)
unfolding lines_text texts
machine-text s [] = refl
machine-text s (l ∷ ls) =
    ap (λ (t : List ℕ). printed (line_text s (hex_line l)) ++ t) (machine-text (line_state s (hex_line l)) ls) ∙ first-text s (hex_line l) (map hex_line ls)

-- the machine's results from the factory state are the model's from the factory cells
factory_results : (xs : List Step) → results model machine factory_state xs ≡ modelResults model factory_cells xs
factory_results xs =
    (sequence_theorem factory_state factory_lengths xs).agrees_with_model.1
    ∙ results_by_real_cells factory_cells (cells factory_state) xs
    (sym (validity_agrees factory_state factory_lengths) ∙ factory_valid ∙ sym factory-cells-valid) factory_cells_lem

pub replay_theorem : ReplayTheorem
replay_theorem input = machine-text factory_state (lines input) ∙ ap (texts (map hex_line (lines input))) (factory_results (steps (map hex_line (lines input))))
