-- To be believed: Limits, the certificates that the format has room for.
pub mod Limits
