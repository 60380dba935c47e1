pub mod Valid
