pub mod RowViews
pub mod ViewedSlots
mod ListedSlots
mod StandingReads
pub mod StandingsKept
mod UnfinishedThreads
mod FirstProcess
mod InheritedData
pub mod LastThread
