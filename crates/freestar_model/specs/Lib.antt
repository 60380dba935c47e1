pub mod Cells
pub mod Model
