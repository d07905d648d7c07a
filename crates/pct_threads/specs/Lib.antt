pub mod FrameWords
pub mod StackFrames
pub mod Records
pub mod Slots
pub mod Tables
pub mod Rows
pub mod Lends
