pub mod Spans
pub mod Figures
pub mod Writing
pub mod Moving
