pub mod Counts
pub mod Tallies
pub mod Fronts
