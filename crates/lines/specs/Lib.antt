pub mod Fields
pub mod Calls
pub mod Deltas
pub mod Asks
