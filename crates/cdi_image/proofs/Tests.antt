-- Which cells an image has, and the image of a stored part, by computation; and that this image is the cells of a state.
-- Assumes nothing.
use mathlib.Core.Path.{refl, sym}
use mathlib.Core.List.{flat_map}
use Rattle.cdi_model.specs.Tight.{every_cell}
use Rattle.cdi_image.specs.Image.{contents_of}
use Rattle.cdi_image.specs.Laws.{KeptCells, SampleImage, sample_state, SampleCells}
use Rattle.cdi_image.proofs.Cells.{contents_are_cells}

pub kept-cells : KeptCells
unfolding every_cell
kept-cells = record { all-kept = refl; no_others = refl; each_once = refl }

pub sample-image : SampleImage
unfolding contents_of flat_map
sample-image = refl

pub sample-cells : SampleCells
unfolding contents_of flat_map
sample-cells = sym (contents_are_cells sample_state refl)
