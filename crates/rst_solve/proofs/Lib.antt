pub mod Places
pub mod Paths
pub mod Models
pub mod Descents
pub mod Lines
pub mod Steps
pub mod Ends
