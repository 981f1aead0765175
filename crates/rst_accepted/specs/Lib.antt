-- What the laws speak of.
pub mod Elaborated
