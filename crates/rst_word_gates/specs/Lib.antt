-- Read these: the gates of a recurrence are what it gives over this algebra.
pub mod GateAlgebra
pub mod Operands
-- Words of the laws.
pub mod GateLaws
