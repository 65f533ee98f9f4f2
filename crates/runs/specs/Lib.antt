pub mod Answers
pub mod Fills
