pub mod Tables
pub mod Asks
pub mod Grown
pub mod Model
