pub mod AnswerTexts
pub mod StepLines
pub mod StepParts
pub mod EnteredLines
