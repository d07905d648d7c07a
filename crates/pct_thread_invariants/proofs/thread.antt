-- What one thread keeps, beside what the events report of it: by each transition, and in the sentences of Kept.antt.
pub mod Passes
pub mod ThreadRule
pub mod NamedFunctions
pub mod NamedWords
pub mod GoingOn
pub mod Handlers
pub mod Ends
pub mod Statements
pub mod ForkHandlers
pub mod Transitions
pub mod KeptThreads
pub mod EndingSteps
pub mod Replicas
pub mod SuspendedCalls
pub mod JoinTransitions
pub mod NamedThreads
