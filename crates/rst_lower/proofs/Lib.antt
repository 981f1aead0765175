pub mod Stands
pub mod Loops
pub mod Lists
pub mod Meaning
