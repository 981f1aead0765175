pub mod OneDue
pub mod Accepted
pub mod Chains
pub mod Spelled
pub mod Runs
