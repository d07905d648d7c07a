pub mod pushes
pub mod StaticPushes
pub mod lift
pub mod keys
pub mod thread
pub mod exits
pub mod LastThreads
pub mod ThreadsOfRun
