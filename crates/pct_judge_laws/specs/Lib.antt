pub mod RunsKeep
