-- To be believed.
pub mod Causes
