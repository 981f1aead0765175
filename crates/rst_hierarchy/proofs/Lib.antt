pub mod LinkLemmas
pub mod PlaceLemmas
pub mod ReachLemmas
pub mod RowsOfModules
