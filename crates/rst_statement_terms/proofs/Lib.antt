pub mod RelatedWords
pub mod RelatedStatements
