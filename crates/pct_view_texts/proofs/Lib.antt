pub mod Appending
pub mod FieldTexts
pub mod LineTexts
pub mod ListedTexts
pub mod StatusTexts
pub mod StepLines
pub mod PhraseTexts
pub mod StateTexts
