pub mod Turned
pub mod Starts
pub mod Resets
pub mod Units
pub mod Held
pub mod Lists
pub mod Machines
