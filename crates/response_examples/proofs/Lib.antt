pub mod Proved
pub mod Drawn
