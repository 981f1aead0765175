-- How the code reads hops and widens their cubes.
pub mod Widening
