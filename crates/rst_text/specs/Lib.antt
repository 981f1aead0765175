-- To be believed: all of it.
pub mod Lines
