pub mod Printed
pub mod Decided
pub mod Read
pub mod Answering
