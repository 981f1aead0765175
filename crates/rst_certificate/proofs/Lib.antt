pub mod WholeTexts
pub mod Left
pub mod Saves
pub mod Texts
pub mod Writers
