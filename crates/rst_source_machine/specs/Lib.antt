-- What a reader has to believe: all of it.
pub mod Ordered
pub mod Alike
