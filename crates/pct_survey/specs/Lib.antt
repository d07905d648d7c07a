pub mod JudgedRuns
pub mod Surveys
pub mod MoreRuns
pub mod OneSurvey
pub mod SurveyTexts
