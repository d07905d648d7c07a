-- The ends of threads over every run: the laws of values that are left, of what follows an end, and of the handlers that ran.
pub mod LeftoverValues
pub mod AfterTheEnd
pub mod HandlersRun
