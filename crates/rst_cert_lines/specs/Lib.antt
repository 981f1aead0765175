-- To be believed: nothing here. Reading and Readers say what is read off a line of a certificate. That it is the line that is written
-- of it, and that every such line is read where what it says fits, are laws in the words of Fits.
pub mod Reading
pub mod Readers
pub mod Fits
