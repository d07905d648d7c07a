pub mod OnceStates
pub mod OnceTransitions
pub mod RoutineThreads
pub mod OncesOfRun
pub mod RoutineReturns
