pub mod Bytes
pub mod FnArgumentKinds
pub mod LegalSteps
pub mod Runs
pub mod StaticFacts
