pub mod Thens
pub mod Files
pub mod OneQuestion
pub mod Parts
