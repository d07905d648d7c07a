pub mod RenamedTests
pub mod RenamedReadings
pub mod RenamedLaws
