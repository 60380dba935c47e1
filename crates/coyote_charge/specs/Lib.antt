pub mod Charge
pub mod Laws
