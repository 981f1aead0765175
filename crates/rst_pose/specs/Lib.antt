-- The clauses of a query, and the work of a search.
pub mod Posed
pub mod Works
-- Which queries are posed, and how the code poses them.
pub mod Posing
