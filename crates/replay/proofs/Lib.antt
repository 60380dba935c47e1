pub mod Kept
pub mod Left
pub mod Turns
pub mod Runs
pub mod Witness
