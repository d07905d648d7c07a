pub mod Verdicts
mod TallyLines
mod CountTexts
pub mod SumsOfRuns
mod EachStop
mod LinesLeft
mod Binds
mod StopLines
mod SubjectFaults
mod ManyTallies
mod NextItem
mod TotalSteps
mod TotalResults
pub mod FittingSums
mod LinesAgain
mod TalliesAgain
mod TextsAgain
mod LinesSpelled
mod TalliesSpelled
mod OneOrder
pub mod OneTotal
pub mod FirstHits
pub mod CountedRuns
pub mod TwoRanges
pub mod TwoTexts
