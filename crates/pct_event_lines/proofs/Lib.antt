pub mod NamesRead
pub mod Numbers
pub mod EventAgain
pub mod EventsAgain
