pub mod Records
pub mod Cursors
