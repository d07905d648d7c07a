pub mod ProcessChanges
pub mod ProcessParts
pub mod OwnChanges
pub mod SharedChanges
pub mod Stands
