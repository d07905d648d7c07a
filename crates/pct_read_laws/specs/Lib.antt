pub mod RunsRead
