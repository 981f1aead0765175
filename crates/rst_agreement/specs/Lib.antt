-- The condition of the law.
pub mod Fits
