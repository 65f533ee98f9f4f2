pub mod Tellings
pub mod Turns
pub mod Steps
pub mod Going
pub mod Texts
pub mod Events
