-- Condition waits over every run: the laws of condition waits and of signals that are handed on, and the clauses of the invariant on the
-- waits of threads.
pub mod GenericPoints
pub mod WaitSteps
pub mod NeighbourEvents
pub mod WaitsOfRun
