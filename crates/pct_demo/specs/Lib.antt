pub mod CountedRuns
