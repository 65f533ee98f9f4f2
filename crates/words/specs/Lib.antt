pub mod Words
pub mod Numbers
pub mod Show
pub mod Input
