pub mod Ending
pub mod Program
pub mod Run
pub mod Witness
