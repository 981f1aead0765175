pub mod Rows
pub mod Chains
pub mod Lists
pub mod Steps
pub mod Laws
