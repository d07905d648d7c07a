-- The ids and slots of new threads, over every run: the law of creations.
pub mod FreeSlots
pub mod KnownIds
pub mod FreshIds
pub mod ReclaimedThreads
pub mod LawfulCreations
