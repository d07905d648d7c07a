pub mod frames
