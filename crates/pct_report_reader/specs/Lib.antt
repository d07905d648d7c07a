pub mod Texts
pub mod Reading
pub mod Forms
pub mod Gives
pub mod Body
pub mod EventWords
