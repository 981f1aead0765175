pub mod Arms
pub mod Cases
pub mod Faults
pub mod Full
pub mod Lists
pub mod Loops
pub mod Rows
pub mod Wide
