pub mod Slots
pub mod Layout
pub mod Inverse
pub mod Keyed
