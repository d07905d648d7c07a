pub mod SlotLemmas
pub mod SlotScans
mod BitLemmas
mod KeyedSlots
