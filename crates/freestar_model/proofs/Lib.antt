pub mod Lawful
pub mod Literal
