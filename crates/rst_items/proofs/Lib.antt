pub mod FormLemmas
pub mod Rounds
pub mod SeenLemmas
