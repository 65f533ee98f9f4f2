pub mod Inserts
pub mod Measured
pub mod Theorems
