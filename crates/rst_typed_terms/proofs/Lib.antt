pub mod Parts
pub mod Operands
pub mod Values
pub mod Related
pub mod Widths
