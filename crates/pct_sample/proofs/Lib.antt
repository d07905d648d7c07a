pub mod OkRuns
mod SeedRuns
mod FirstSeeds
mod LongerRows
mod EventCounts
pub mod FewJoins
pub mod LongerTallies
pub mod CountedTallies
pub mod SeedOptions
pub mod OneTally
pub mod Sums
