pub mod EventBounds
pub mod EventNumbers
