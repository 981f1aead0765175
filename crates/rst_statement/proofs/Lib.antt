pub mod Rows
pub mod Lists
pub mod Until
pub mod Steps
pub mod Laws
