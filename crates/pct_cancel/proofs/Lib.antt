mod Table
pub mod Names
