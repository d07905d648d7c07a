mod OptionTexts
mod FirstOptions
mod GivenOptions
mod WordsLeft
pub mod Configs
