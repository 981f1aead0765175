-- A reader has to believe all of these: they say what trees are, what their heights are, and which are well formed.
pub mod Trees
pub mod Targets
pub mod Statements
pub mod Modules
pub mod WellFormed
