pub mod Measures
pub mod Payloads
