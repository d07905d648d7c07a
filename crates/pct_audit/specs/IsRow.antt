-- What a row stands for.
use Rattle.std.specs.Prelude.{◌≡◌, ℕ, ◌<◌, ◌≤◌, ◌||◌, Bool, true, false, List, length, nat_eq}
use Rattle.pct_model.specs.declared.event.Event.{Event}
use Rattle.pct_model.specs.declared.event.What.{What}
use Rattle.pct_model.specs.declared.event.What.TheVariants as what
use Rattle.pct_model.specs.ThreadCalls.{join_point}
use Rattle.pct_laws.specs.KnownThreads.{is_known, is_detached, is_joined, reports_end}
use Rattle.pct_laws.specs.NewestEvents.{newest_is, reports_call}
use Rattle.pct_laws.specs.ThreadSummary.{ThreadSummary, summary_of}
use Rattle.pct_laws.specs.WaitStages.{stage_after, wait_stage}
use Rattle.pct_audit.specs.declared.rows.Row.{Row}
use Rattle.pct_audit.specs.Stacks.{stack_at}

-- a row stands for a summary
pub record IsRow (stacks : List (List (ℕ × ℕ))) (row : Row) (s : ThreadSummary) : Type 0 where
  pub handlers_number : row.handlers < length stacks
  pub handlers : stack_at stacks row.handlers ≡ s.handlers
  pub left_number : row.left < length stacks
  pub left : stack_at stacks row.left ≡ s.left
  pub reason : row.reason ≡ s.reason
  pub ended : row.ended ≡ s.ended
  pub passes : row.passes ≡ s.passes

-- a row stands for a thread
pub record IsThread (stacks : List (List (ℕ × ℕ))) (row : Row) (pid tid : ℕ) (events : List Event) : Type 0 where
  pub summary : IsRow stacks row (summary_of pid tid events)
  pub known : row.known ≡ is_known pid tid events
  pub detached : row.detached ≡ is_detached pid tid events
  pub joined : row.joined ≡ is_joined pid tid events
  pub joining : row.joining ≡ newest_is (reports_call join_point) pid tid events
  pub stage : row.stage ≡ wait_stage pid tid events

-- ---- what an event changes

-- each stack is as it was, and there may be more
pub record Grows (before after : List (List (ℕ × ℕ))) : Type 0 where
  pub more : length before ≤ length after
  pub same : (k : ℕ) → k < length before → stack_at after k ≡ stack_at before k

-- the event creates, detaches or joins the thread with an id
abbrev pub names : ℕ → What → Bool
names tid (what.Created id detached) = nat_eq id tid
names tid (what.Detached id) = nat_eq id tid
names tid (what.Joined id v) = nat_eq id tid
names tid _ = false

-- the row of a thread that an event names
abbrev pub marked : What → Row → Row
marked (what.Created id detached) row = record row { known = true; detached = detached || row.detached }
marked (what.Detached id) row = record row { detached = true }
marked (what.Joined id v) row = record row { joined = true }
marked _ row = row

-- the row of a replica of a thread
abbrev pub copied : Row → Row → Row
copied caller row = record row { handlers = caller.handlers; known = true; detached = caller.detached || row.detached }

-- what an event of a thread makes of the other parts of its row
pub record IsOwnChange (w : What) (row next : Row) : Type 0 where
  pub known : next.known ≡ row.known
  pub detached : next.detached ≡ row.detached
  pub joined : next.joined ≡ row.joined
  pub joining : next.joining ≡ reports_call join_point w
  pub stage : next.stage ≡ stage_after w row.stage
  pub ended : reports_end w ≡ false → next.ended ≡ row.ended

-- an event of a thread leaves these parts of its row
pub record KeepsMarks (w : What) (row next : Row) : Type 0 where
  pub known : next.known ≡ row.known
  pub detached : next.detached ≡ row.detached
  pub joined : next.joined ≡ row.joined
  pub stage : next.stage ≡ row.stage
  pub ended : reports_end w ≡ false → next.ended ≡ row.ended
