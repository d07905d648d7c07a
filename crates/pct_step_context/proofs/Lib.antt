pub mod EnvironmentRead
pub mod StandingsRead
pub mod WaitersRead
pub mod ProcessReads
pub mod Bodies
