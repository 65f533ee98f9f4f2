pub mod Value
pub mod Sound
pub mod Ask
