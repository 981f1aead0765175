-- What a reader has to believe: what names stand for, typed expressions and their values, the table of expression sizing, what an
-- expression becomes in its context, and what the calls answer.
pub mod Scopes
pub mod Typed
pub mod Values
pub mod Sized
pub mod Selects
pub mod Steps
pub mod Sizing
pub mod Table
pub mod Targets
pub mod Answers
-- What else the contracts say of a typed expression: it fits together, and reads inside its signals.
pub mod Fit
pub mod Reads
-- How the code's types are seen in contracts, and that its widths end at 65; of `Cut`, public contracts name `cut_shape` alone.
pub mod Plain
pub mod Cut
-- Only words of proofs, which no public contract names.
pub mod Fronts
