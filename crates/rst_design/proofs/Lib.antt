pub mod Orders
pub mod Rows
pub mod Gives
pub mod OneAnswer
pub mod Turns
pub mod Wholes
