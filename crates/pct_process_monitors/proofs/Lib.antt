pub mod LeftoverEvents
