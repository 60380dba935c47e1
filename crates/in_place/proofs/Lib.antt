pub mod InPlace
pub mod Updates
