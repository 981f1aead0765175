-- To be believed: all of it.
pub mod Heads
pub mod Rows
pub mod Reports
