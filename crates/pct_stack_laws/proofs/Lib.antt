pub mod IndexedItems
pub mod SlotHolders
pub mod LoneHolders
pub mod KeptSlots
pub mod StackLawKept
pub mod StackRows
