pub mod Digits
pub mod Spaced
pub mod Pairs
pub mod Lines
pub mod Ends
pub mod Laws
