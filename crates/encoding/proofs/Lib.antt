pub mod Back
pub mod Stores
pub mod Parts
