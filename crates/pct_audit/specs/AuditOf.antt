-- The first event at which a law fails, and the first law that fails there.
use Rattle.std.specs.Prelude.{◌≡◌, ℕ, ◌<◌, ◌≤◌, Bool, not, List, [], ◌∷◌, take, reverse, length, Option, Some, None, find}
use Rattle.pct_model.specs.declared.event.Event.{Event}
use Rattle.pct_laws.specs.Each.{each}
use Rattle.pct_laws.specs.CondLaw as CondLaw
use Rattle.pct_laws.specs.JoinLaw as JoinLaw
use Rattle.pct_laws.specs.Once as Once
use Rattle.pct_laws.specs.OnceLaw as OnceLaw
use Rattle.pct_laws.specs.SlotLaw as SlotLaw
use Rattle.pct_audit.specs.declared.law.Law.{Law}
use Rattle.pct_audit.specs.declared.law.Law.TheVariants as law
use Rattle.pct_audit.specs.declared.law.AuditFault.{AuditFault}

-- the laws that are judged, in the order in which they are asked
abbrev pub judged_laws : List Law
judged_laws = law.Once ∷ law.Slot ∷ law.Join ∷ law.Cond ∷ law.CallOnce ∷ []

-- a law allows an event after those before it: `passes` is the limit on the passes over destructors, and `slots` the number of thread
-- slots of a process
abbrev pub allows : Law → ℕ → ℕ → Event → List Event → Bool
allows law.Once passes slots = Once.allows passes
allows law.Slot passes slots = SlotLaw.allows slots
allows law.Join passes slots = JoinLaw.allows
allows law.Cond passes slots = CondLaw.allows
allows law.CallOnce passes slots = OnceLaw.allows

-- some events, newest first, keep a law
abbrev pub keeps : Law → ℕ → ℕ → List Event → Bool
keeps law passes slots events = each (allows law passes slots) events

-- the first law that some events, newest first, do not keep
abbrev pub first_broken : ℕ → ℕ → List Event → Option Law
first_broken passes slots events = find (λ law. not (keeps law passes slots events)) judged_laws

-- the first k of some events that are listed oldest first; newest first, as the laws list them
abbrev pub first_events : ℕ → List Event → List Event
first_events k events = reverse (take k events)

-- the fault names the least k such that the first k events do not keep the laws, and the first law that they do not keep
pub record IsFirstFault (passes slots : ℕ) (events : List Event) (fault : AuditFault) : Type 0 where
  pub within : fault.event ≤ length events
  pub broken : first_broken passes slots (first_events fault.event events) ≡ Some fault.law
  pub before : (k : ℕ) → k < fault.event → first_broken passes slots (first_events k events) ≡ None

-- what the audit of some events, oldest first, answers: the first fault, or nothing if all their beginnings keep the laws
abbrev pub IsAuditOf : ℕ → ℕ → List Event → Option AuditFault → Type 0
IsAuditOf passes slots events None = (k : ℕ) → k ≤ length events → first_broken passes slots (first_events k events) ≡ None
IsAuditOf passes slots events (Some fault) = IsFirstFault passes slots events fault

-- ---- one event more

-- the first law that does not allow an event after those before it
abbrev pub first_broken_by : ℕ → ℕ → Event → List Event → Option Law
first_broken_by passes slots e earlier = find (λ law. not (allows law passes slots e earlier)) judged_laws
