pub mod HintSteps
pub mod LineSteps
pub mod Replays
