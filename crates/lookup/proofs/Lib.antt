pub mod Numbers
pub mod Given
pub mod Values
