pub mod HandlerScans
