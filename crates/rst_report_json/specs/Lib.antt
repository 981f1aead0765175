-- To be believed: JsonReports, and for the laws Shapes. They name what serde_json's specification says: `put` sets a member of
-- an object, at its place in the order of names; `compact_text` is a value's text without white space; `read` is the value of
-- a text.
pub mod JsonReports
pub mod Shapes
-- Words of proofs alone.
pub mod Objects
