pub mod ClockRows
pub mod Flats
pub mod Elaborated
-- How the code shows what it works with.
pub mod Tables
