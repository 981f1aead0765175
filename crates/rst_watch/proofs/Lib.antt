pub mod Points
pub mod Guards
pub mod States
pub mod Visiting
pub mod Scans
