pub mod Numbered
pub mod ThreadNames
pub mod StaticScripts
pub mod GeneratedTexts
pub mod Worked
