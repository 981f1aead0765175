pub mod Lowerable
