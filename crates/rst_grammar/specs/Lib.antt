-- A reader has to believe these: the grammar, production by production.
pub mod Says
pub mod Productions
pub mod Expressions
pub mod Targets
pub mod Statements
pub mod Declarations
pub mod Links
pub mod Items
pub mod Modules
-- These are words of proofs: readers from left to right, which are proved to read just what the grammar spells.
pub mod Reading
pub mod ReadStatement
pub mod ReadParts
pub mod ReadDeclarations
pub mod ReadItems
pub mod ReadModule
