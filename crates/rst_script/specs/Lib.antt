pub mod Lines
pub mod Numbers
pub mod Opening
pub mod Choices
pub mod Steps
pub mod Scripts
pub mod Fitting
pub mod Limits
