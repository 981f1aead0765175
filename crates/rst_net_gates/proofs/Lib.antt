pub mod Left
pub mod Weighing
pub mod Lowered
