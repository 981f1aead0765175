pub mod Looks
pub mod Watching
pub mod Choices
pub mod Propagators
