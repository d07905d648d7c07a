pub mod RunsPass
