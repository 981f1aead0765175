pub mod Loops
pub mod Orders
pub mod Aiming
pub mod Cycles
pub mod Widened
