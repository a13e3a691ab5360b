pub mod FactSteps
pub mod StepOutcomes
