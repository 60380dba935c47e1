pub mod Agreement
pub mod Follows
pub mod Laws
