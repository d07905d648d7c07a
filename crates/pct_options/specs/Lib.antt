pub mod OptionTexts
pub mod GivenValues
pub mod FirstOption
