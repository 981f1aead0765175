-- What a reader has to believe: which words are which command.
pub mod Commands
