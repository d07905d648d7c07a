pub mod creations
pub mod forks
