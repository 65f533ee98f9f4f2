pub mod Deletes
pub mod Gaps
pub mod Removes
pub mod Tidies
