pub mod Closes
pub mod Opens
pub mod Puts
pub mod Rooms
pub mod Settles
