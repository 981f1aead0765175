-- What a reader has to believe: the condition of `lower`, and what its gates stand for.
pub mod Netlists
pub mod Meanings
