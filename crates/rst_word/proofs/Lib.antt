pub mod Results
pub mod Powers
pub mod Divisions
