-- What the public calls promise rests on the grammar's definitions, on `Gives` of `rst_read`, and on `Seen`, which a reader has
-- to believe. `Parts` has only words of proofs.
pub mod Seen
pub mod Parts
