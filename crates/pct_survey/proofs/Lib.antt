mod Dotted
mod FieldMatches
mod EventLines
mod HeldRules
mod ThreadTexts
mod MoreRuns
mod CountedLists
pub mod OneSurvey
mod CollectedRuns
mod JudgedEngines
