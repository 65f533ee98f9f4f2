pub mod Works
pub mod Sounds
pub mod Calls
pub mod Appends
