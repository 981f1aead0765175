pub mod Members
pub mod Paths
pub mod Growth
pub mod Placing
pub mod Searching
