pub mod Working
pub mod RisingNumbers
pub mod LongerChoices
pub mod LoneRuns
pub mod WorkedRuns
