pub mod Layout
pub mod Read
pub mod Encode
pub mod Laws
