pub mod CountLemmas
pub mod FirstNames
pub mod SignalLemmas
pub mod StageLemmas
pub mod TopLemmas
