pub mod Entry
pub mod Kind
pub mod Number
pub mod Order
