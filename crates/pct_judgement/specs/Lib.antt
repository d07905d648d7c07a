pub mod Judgements
pub mod AnswerTexts
