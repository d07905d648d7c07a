pub mod CountedRuns
pub mod Summaries
