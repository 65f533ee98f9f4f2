pub mod Merges
pub mod Forces
pub mod Spots
pub mod Opens
