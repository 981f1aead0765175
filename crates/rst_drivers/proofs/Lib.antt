mod Rows
mod Tests
mod BitLemmas
mod Counting
mod MarkLemmas
mod RowLemmas
