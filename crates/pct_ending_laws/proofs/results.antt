-- The laws of results and of thread-specific data: what each step of a run stores in variables, and as values of keys.
pub mod NamedVariables
pub mod Stores
pub mod KeptVariables
pub mod StoredResults
pub mod SetValues
pub mod UsedKeys
pub mod ValuesOfThreads
pub mod OtherProcesses
