mod LeftFacts
mod EndTold
mod MoreEvents
mod MoreThreads
pub mod MoreStacks
