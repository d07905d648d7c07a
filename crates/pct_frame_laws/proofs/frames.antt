-- The frames of threads, over every run: what a transition does to them, by its actions and by case; that a thread in a function always has
-- something to do; and the law of frames.
pub mod MovedFrames
pub mod FrameCases
pub mod BusyChoices
pub mod BusyThreads
pub mod HandlerFrames
pub mod LawfulFrames
