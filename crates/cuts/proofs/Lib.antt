pub mod Seams
pub mod Falls
pub mod Bare
pub mod Sounds
