pub mod owners
pub mod waits
pub mod requests
