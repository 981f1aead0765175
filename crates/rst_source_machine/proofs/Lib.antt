pub mod Machines
pub mod Designs
pub mod Sources
pub mod Nets
