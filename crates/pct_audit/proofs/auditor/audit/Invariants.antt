-- What `audit` keeps in its loop.
use Rattle.std.specs.Prelude.{◌≡◌, ℕ, ◌≤◌, None}
use Rattle.pct_audit.specs.AuditOf.{first_broken, first_events}
use Rattle.pct_audit.specs.Tells.{Tells}
use Rattle.pct_audit.proofs.auditor.audit.Given as goal

abbrev pub invariant-loop-index : goal.invariant-loop-index
invariant-loop-index l = record {
  told : Tells l.judge (first_events l.index l.events);
  slots : l.judge.slots ≡ l.slots;
  kept : (k : ℕ) → k ≤ l.index → first_broken l.passes l.slots (first_events k l.events) ≡ None;
}
