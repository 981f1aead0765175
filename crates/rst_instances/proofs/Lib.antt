pub mod ExtentLemmas
pub mod KnownLemmas
pub mod NoteLemmas
pub mod PlaceLemmas
pub mod RangeLemmas
pub mod TurnLemmas
pub mod ValueLemmas
pub mod WalkLemmas
