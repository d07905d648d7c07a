pub mod KeysOfProcesses
pub mod ProcessSets
pub mod FactsOfThreads
pub mod ProcessesSoFar
pub mod UnfollowedEvents
