mod Texts
mod Talks
pub mod LedSteps
