-- What a table is after it lent the record of a thread.
use Rattle.std.specs.Prelude.{ℕ, List}
use Rattle.std.specs.Borrow.{Lends, MutBor, Fml}
use Rattle.pct_threads.specs.contracts.record.Thread.{the_row as thread_type}
use Rattle.pct_threads.specs.contracts.threads.Threads.{the_row as table_type}
use Rattle.pct_threads.specs.declared.record.Thread.{Thread}
use Rattle.pct_threads.specs.Slots.{Slot, with_record}
use Rattle.pct_threads.specs.Tables.{on_held}

-- after the borrow the thread on the slot has the record that r leaves
abbrev pub LendsThread : MutBor (List Slot) → ℕ → MutBor Thread → Fml
LendsThread t index r = Lends table_type thread_type t r (λ thread. on_held index (with_record thread) t.now)
