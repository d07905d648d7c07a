pub mod PushCounts
pub mod Order
