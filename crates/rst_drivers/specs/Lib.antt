-- What a reader has to believe: what drives and what reads a signal, and the rows of refusals.
pub mod Drives
pub mod FlatRows
-- How the code shows and counts them.
pub mod Tables
pub mod Marks
pub mod Counts
pub mod CodeRows
