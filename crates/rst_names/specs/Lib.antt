-- What a reader has to believe: refusals and the lists that they are the first of, the names that parts of a text use, which
-- ranges are the same, and what a module declares.
pub mod Faults
pub mod Names
pub mod SameTrees
pub mod Declarations
-- How the code's types and tables are seen in contracts.
pub mod Tables
