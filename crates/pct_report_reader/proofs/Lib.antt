mod LineCount
mod FaultLines
pub mod WordsLeft
mod BodyLines
pub mod EventPlaces
mod ReportParts
pub mod FirstFound
pub mod ReadLines
