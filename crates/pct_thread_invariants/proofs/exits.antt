-- The exit of a process: the functions registered with atexit, and a thread that runs one of them.
pub mod PlainFunctions
pub mod RegisteredFunctions
pub mod ExitSteps
