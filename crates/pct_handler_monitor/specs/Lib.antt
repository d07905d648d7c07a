pub mod Left
pub mod IsRan
pub mod Monitors
