-- What a reader has to believe: all of it. This is what a design means.
pub mod Bits
pub mod Signals
pub mod Effects
pub mod Drivers
pub mod Resets
pub mod Cycle
