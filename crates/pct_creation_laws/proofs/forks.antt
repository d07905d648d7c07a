-- The fork handlers that are called, over every run: the law of fork handlers.
pub mod LeftHandlers
pub mod ForkSteps
pub mod KeptForks
pub mod ReturnedForks
pub mod CalledHandlers
