-- The owners of mutexes, over every run: the law of mutexes, and the clause of the invariant on their owners.
pub mod NamedMutexes
pub mod OwnerTransitions
pub mod OwnersOfRun
