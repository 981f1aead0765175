pub mod RelatedDesigns
pub mod Meaning
