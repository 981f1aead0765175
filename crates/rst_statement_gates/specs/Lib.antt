-- The condition of `statement`, and what its reads see.
pub mod Sights
-- Words of the contracts inside: the bits that branches set, and what is chosen at them.
pub mod Plain
pub mod Marks
pub mod Choices
pub mod Chains
