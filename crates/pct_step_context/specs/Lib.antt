pub mod Programs
pub mod Positions
pub mod ThreadRecords
pub mod Numbers
pub mod OtherThreads
pub mod Contexts
