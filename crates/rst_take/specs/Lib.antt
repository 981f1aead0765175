-- To be believed: Takes, what a file is as a certificate.
pub mod Takes
-- Words of proofs alone.
pub mod Fronts
