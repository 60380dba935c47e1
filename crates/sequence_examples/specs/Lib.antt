pub mod Sentences
pub mod Table
