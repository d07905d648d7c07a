-- Which threads act upon a request, over every run: the law of cancellation, and what every run keeps of the cancelability and of the
-- requests of threads.
pub mod CancelStates
pub mod PendingRequests
pub mod LeftWaits
pub mod ActingThreads
pub mod LawfulRequests
pub mod AwakenedThreads
pub mod ActingSteps
pub mod ActingCalls
pub mod SetCancelability
