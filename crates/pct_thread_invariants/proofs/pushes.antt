-- Where a block of a function closes, the pushes that are open are those that were open where the block opened.
pub mod AfterStatements
pub mod PushBlocks
pub mod ClosedBlocks
