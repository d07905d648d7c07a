pub mod Closing
pub mod NestedBodies
pub mod OpenBlocks
pub mod JumpTableFacts
