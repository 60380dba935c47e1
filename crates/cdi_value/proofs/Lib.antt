pub mod Values
pub mod Lengths
