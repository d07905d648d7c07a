pub mod AnswerLines
pub mod OneJudgement
pub mod NonEmptyRules
