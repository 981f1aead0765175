pub mod Turns
pub mod RowLemmas
pub mod TableLemmas
pub mod NameLemmas
pub mod SummaryLemmas
pub mod SameLemmas
pub mod FactLemmas
