pub mod Ends
pub mod FirstEntry
pub mod Gives
pub mod Memory
pub mod Prefix
pub mod PrefixLaws
pub mod Schedules
