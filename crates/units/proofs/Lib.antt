pub mod Halves
pub mod Pairing
pub mod Plain
