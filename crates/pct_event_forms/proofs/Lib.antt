pub mod WordsRead
pub mod EventsRead
