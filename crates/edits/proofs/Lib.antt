pub mod Formats
pub mod Inserts
