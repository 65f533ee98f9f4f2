pub mod Sweeps
pub mod Carries
pub mod Showing
