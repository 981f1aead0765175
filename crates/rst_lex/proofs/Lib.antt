mod MarkShapes
mod Shapes
mod Names
mod Literals
mod Close
mod GapFronts
mod Sounds
mod Numbers
mod LexFronts
mod LexPieces
mod Worth
pub mod LexLoop
mod OneReading
mod SomeReading
