-- What a reader has to believe: what each load gives, and the first that gives no text.
pub mod Loads
