pub mod Failed
pub mod Heeded
pub mod StepLines
pub mod ToldLines
pub mod ToldSteps
