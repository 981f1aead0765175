-- What a reader has to believe: the plain forms of typed statements, units and the flat design.
pub mod Statements
pub mod Units
