pub mod Around
pub mod Locations
pub mod Parameters
pub mod Places
pub mod RangeRows
pub mod Rows
pub mod Settings
pub mod Tables
