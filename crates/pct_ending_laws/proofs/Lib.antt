pub mod KeyEvents
pub mod StepsOfRuns
pub mod steps
pub mod results
pub mod ends
pub mod KeptStates
