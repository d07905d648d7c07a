mod UnendedThreads
mod ListedThreads
mod FoundProcesses
mod Waits
mod ThreadStates
