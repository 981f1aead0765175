pub mod Widths
pub mod Known
pub mod Dues
