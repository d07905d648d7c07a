-- The laws of a step: what each step of a run does to the thread that makes it.
pub mod CalledFunctions
pub mod KeptKeys
pub mod EndStages
pub mod KeptValues
pub mod SaidStatements
pub mod MadeStages
pub mod NamedWaits
