pub mod ReadBack
pub mod ReplayInput
