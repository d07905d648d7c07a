pub mod EventLaws
pub mod Renamed
