pub mod Trails
pub mod Supports
