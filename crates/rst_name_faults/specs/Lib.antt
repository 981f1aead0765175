pub mod NameRows
pub mod Tables
