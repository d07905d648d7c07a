use Rattle.pct_names.proofs.Names.{◌-◌, ◌≡◌}
use Rattle.pct_inspection.specs.Selections.{are_threads}
use Rattle.pct_inspection.proofs.selecting.are_threads.Given as goal

-- the threads so far are named, so what is left decides
abbrev pub invariant-loop : goal.invariant-loop
invariant-loop l = are_threads (64 - l.counter) l.rest ≡ are_threads 64 l.text
