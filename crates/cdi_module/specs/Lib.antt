pub mod Module
pub mod Machine
pub mod Theorem
