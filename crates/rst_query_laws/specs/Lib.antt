-- What a query has to be for the law that it is posed exactly.
pub mod Conditions
