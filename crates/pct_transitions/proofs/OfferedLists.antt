-- What the list of its choices says of a thread.
use Rattle.pct_names.proofs.Names.{◌<◌, length, List, subst, sym, ℕ, ◌≡◌}
use Rattle.pct_threads.specs.Slots.{Slot}
use Rattle.pct_keys.specs.Tables.{Table}
use Rattle.pct_transitions.specs.declared.choice_table.Choices.{Choices}
use Rattle.pct_transitions.specs.declared.choice_table.Choices.TheVariants as choices
use Rattle.pct_transitions.specs.Listed.{AreWithin, HasRowFor}

-- the thread that calls a destructor has a row of keys
pub has_row : (threads : List Slot) (keys : Table) (these : Choices) → length keys.rows ≡ length threads → AreWithin threads these → HasRowFor keys these
has_row threads keys (choices.Dtor slot) fit within = subst (λ (n : ℕ). slot < n) (sym fit) within
has_row threads keys _ fit within = tt
