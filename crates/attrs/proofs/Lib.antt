pub mod Looks
pub mod Says
pub mod Slots
pub mod Tests
pub mod Stores
pub mod Changes
pub mod Walk
pub mod Force
