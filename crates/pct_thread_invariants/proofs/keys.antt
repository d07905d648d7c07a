-- The keys of each process, and the values of its threads at places without a key, over every run.
pub mod KeyPlaces
pub mod KeptKeys
pub mod KeysOfProcesses
pub mod LeftKeys
