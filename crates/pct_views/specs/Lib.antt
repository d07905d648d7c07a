pub mod ShownThreads
pub mod ShownStates
