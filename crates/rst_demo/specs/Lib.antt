-- To be believed: all of it.
pub mod Demo
