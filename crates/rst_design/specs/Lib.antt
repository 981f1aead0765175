-- To be believed: all of these.
pub mod Texts
pub mod Netlists
pub mod Answers
