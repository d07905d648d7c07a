pub mod SplitOnce
pub mod Lines
pub mod FirstLines
pub mod Numbers
pub mod FirstNumbers
pub mod Numerals
pub mod WordsIn
