pub mod Carrying
pub mod Frames
