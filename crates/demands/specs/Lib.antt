pub mod Steps
pub mod Written
pub mod Requests
pub mod Demands
pub mod Listing
pub mod Bench
