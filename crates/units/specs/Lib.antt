pub mod Surrogates
pub mod Kinds
