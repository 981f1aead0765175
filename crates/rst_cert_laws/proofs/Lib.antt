pub mod Breaks
pub mod Lines
pub mod Parts
pub mod Heads
pub mod Whole
