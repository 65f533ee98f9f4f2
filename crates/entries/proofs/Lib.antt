pub mod Entries
pub mod Bytes
pub mod Seeks
pub mod Puts
