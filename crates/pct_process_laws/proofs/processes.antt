-- The law of processes over every run: stops, the ends and exits of processes, forks, joins, and the children that waitpid reaps.
pub mod StoppedRuns
pub mod ProcessEnds
pub mod MadeProcesses
pub mod MovingThreads
pub mod ReapedChildren
pub mod LawfulProcesses
