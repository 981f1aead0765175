pub use Rattle.rst_name_faults.specs.NameRows
pub mod Hierarchy
pub mod Tables
