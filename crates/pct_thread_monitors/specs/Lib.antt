pub mod Notes
pub mod NotesOf
pub mod IsNote
pub mod Monitors
