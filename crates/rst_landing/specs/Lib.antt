-- Whether a pattern lands in a blocked cube, and the work of finding it.
pub mod Work
pub mod Landings
-- How the code reads what the solver found.
pub mod Models
