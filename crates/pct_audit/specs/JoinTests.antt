-- The law of joins, by what is kept of the threads.
use Rattle.std.specs.Prelude.{ℕ, Bool, true, false, not, ◌&&◌, ◌||◌, is_some, nat_eq}
use Rattle.std.specs.Option.{option_map_or}
use Rattle.pct_model.specs.declared.event.What.{What}
use Rattle.pct_model.specs.declared.event.What.TheVariants as what
use Rattle.pct_audit.specs.declared.rows.Row.{Row}

-- the thread is known, and the lifetime of its id is not over
abbrev pub is_live : Row → Bool
is_live row = row.known && not (is_some row.ended && (row.joined || row.detached))

-- the thread has ended with a value; it was not joined, and is not detached
abbrev pub can_be_joined : ℕ → Row → Bool
can_be_joined v row = option_map_or (λ value. nat_eq value v) row.ended false && not row.joined && not row.detached

-- what the law asks of an event of thread tid of process pid
abbrev pub may_name : (ℕ → ℕ → Row) → What → ℕ → ℕ → Bool
may_name rows (what.Joined id v) pid tid = can_be_joined v (rows pid id) && (rows pid tid).joining
may_name rows (what.Request id) pid tid = is_live (rows pid id)
may_name rows (what.Detached id) pid tid = is_live (rows pid id)
may_name rows _ pid tid = true
