pub mod Word
pub mod Chain
pub mod Steps
pub mod Heads
pub mod Force
pub mod Memory
