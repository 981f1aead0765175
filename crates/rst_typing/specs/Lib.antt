-- What a reader has to believe: typed statements, targets and cases, with their faults.
pub mod Typing
-- What the calls say of a fault, and how they see the arms of a case.
pub mod Refusals
-- Only words of proofs: statements and arms that are read in part.
pub mod Parts
