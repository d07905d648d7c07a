mod SpelledLines
mod Patterns
mod RulesRead
mod LinesRead
pub mod Failures
pub mod WordKeys
pub mod EventLines
pub mod WordMatches
pub mod InsertedKeys
mod ThreadNames
pub mod RuleFailures
pub mod RuleAnswers
pub mod OneAnswer
