pub mod Lowerable
pub mod Sources
