pub mod Matches
pub mod Slices
pub mod Branches
pub mod Effects
