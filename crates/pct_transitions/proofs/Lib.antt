pub mod Fits
pub mod HandlerFrames
pub mod ListedChoices
pub mod KeyChoices
pub mod WaiterChoices
pub mod CancelRows
mod OfferedLists
pub mod ReadyThreads
pub mod NumberedChoices
