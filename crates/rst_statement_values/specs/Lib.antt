-- The condition of the law.
pub mod Fits
-- What it speaks of.
pub mod Agreement
