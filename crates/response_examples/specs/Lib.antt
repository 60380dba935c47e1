pub mod Examples
pub mod Sentences
