pub mod Choices
pub mod Tree
pub mod Records
pub mod Answers
