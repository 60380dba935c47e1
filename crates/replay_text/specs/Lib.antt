pub mod Replay
pub mod Answered
pub mod Session
pub mod Theorem
