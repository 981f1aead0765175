-- What refutes a pattern of one design.
pub mod Early
