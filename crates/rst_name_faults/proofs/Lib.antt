pub mod BuildLemmas
pub mod SeenLemmas
pub mod UseLemmas
