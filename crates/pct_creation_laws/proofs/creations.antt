-- The threads and the processes that are made, over every run: the law of creation.
pub mod NewItems
pub mod NewThreads
pub mod NewProcesses
