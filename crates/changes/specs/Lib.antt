pub mod Changes
pub mod Frame
pub mod Appends
