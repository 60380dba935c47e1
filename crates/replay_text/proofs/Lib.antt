pub mod Lines
pub mod Laws
pub mod Pieces
pub mod Theorem
pub mod Examples
pub mod Valid
