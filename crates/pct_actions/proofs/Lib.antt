pub mod RestItems
mod OwnChanges
mod Stands
pub mod ChangedSlots
mod TableSlots
mod OwnThread
mod WokenThreads
mod CountedRecords
mod NamedThreads
mod FittingActions
mod NewThreads
