pub mod Stacks
pub mod Rows
pub mod Links
pub mod Cells
pub mod Ownership
