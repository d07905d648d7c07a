-- Which threads join which, over every run: the law of joins, and the clauses of the invariant on known, joined, detached and joining
-- threads.
pub mod ReportedFlags
pub mod ThreadsInJoin
pub mod JoiningThreads
pub mod LawfulJoins
