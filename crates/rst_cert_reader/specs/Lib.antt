-- To be believed: Headings, Sections and Readings, what is read of a text line by line, and so where its first fault is. That what is
-- read is written so is a law.
pub mod Headings
pub mod Sections
pub mod Readings
-- To be believed too: Kept, the texts that a reader stands for, and how little it keeps of a line.
pub mod Kept
-- Words of contracts inside the crate.
pub mod Keeping
