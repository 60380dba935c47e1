pub mod Analog
