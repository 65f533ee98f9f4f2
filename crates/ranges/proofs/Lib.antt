pub mod Texts
pub mod Ranges
