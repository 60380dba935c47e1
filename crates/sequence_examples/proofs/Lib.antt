pub mod Computed
pub mod Drawn
pub mod Proved
pub mod Unaltered
