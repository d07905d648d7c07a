pub mod PushCounts
pub mod CheckOrder
pub mod TextChecks
pub mod EmptyTexts
