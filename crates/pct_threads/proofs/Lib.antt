mod StackFrameLemmas
mod RowLemmas
pub mod TableLemmas
mod FreeSlots
mod OccupiedSlots
