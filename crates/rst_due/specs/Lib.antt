-- What a reader has to believe: both.
pub mod Due
pub mod Asked
