-- To be believed: Words and CertText, what the text of a certificate is; Writing, what a writer of it gives.
pub mod Words
pub mod CertText
pub mod Writing
-- Words of proofs alone.
pub mod Atoms
pub mod Sections
