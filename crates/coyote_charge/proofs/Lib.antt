pub mod ByFields
pub mod Laws
