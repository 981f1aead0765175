pub mod Marked
pub mod Working
pub mod Landed
pub mod Verdicts
