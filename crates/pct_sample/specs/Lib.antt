pub mod SeedRuns
pub mod SeededRuns
pub mod Samples
pub mod Parts
pub mod FirstSeeds
pub mod SeedWords
pub mod OneTally
pub mod Sums
