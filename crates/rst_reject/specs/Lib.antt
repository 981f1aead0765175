-- To be believed: all of these.
pub mod Codes
pub mod Rejects
pub mod Lines
pub mod Steps
