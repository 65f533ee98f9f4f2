pub mod Moves
pub mod Opens
