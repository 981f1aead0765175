pub mod Leaves
pub mod Slices
pub mod Bits
pub mod Covers
pub mod Fitting
pub mod OneKind
