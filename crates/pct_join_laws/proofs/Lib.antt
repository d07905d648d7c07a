pub mod joins
pub mod slots
