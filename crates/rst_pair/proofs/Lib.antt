pub mod Lists
pub mod Tables
pub mod Passing
pub mod Loops
pub mod Related
