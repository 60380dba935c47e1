pub mod Types
pub mod Frame
pub mod Laws
pub mod Refusals
pub mod Literal
