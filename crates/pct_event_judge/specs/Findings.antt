-- For each law that is about events alone, the first event that it does not allow. Events are listed oldest first, and numbered from 1.
use Rattle.std.specs.Prelude.{◌≡◌, ℕ, ◌-◌, ◌<◌, ◌≤◌, Bool, true, false, ◌&&◌, List, [], ◌∷◌, length, Option, Some, None, is_none}
use Rattle.pct_model.specs.declared.event.Event.{Event}
use Rattle.pct_laws.specs.AfterEnd as AfterEnd
use Rattle.pct_laws.specs.CondLaw as CondLaw
use Rattle.pct_laws.specs.Each.{each}
use Rattle.pct_laws.specs.JoinLaw as JoinLaw
use Rattle.pct_laws.specs.KeysLaw as KeysLaw
use Rattle.pct_laws.specs.Once as Once
use Rattle.pct_laws.specs.OnceLaw as OnceLaw
use Rattle.pct_laws.specs.ProcessLaw as ProcessLaw
use Rattle.pct_laws.specs.RanAll as RanAll
use Rattle.pct_laws.specs.RequestsLaw as RequestsLaw
use Rattle.pct_laws.specs.SlotLaw as SlotLaw
use Rattle.pct_audit.specs.AuditOf.{first_events}
use Rattle.pct_process_monitors.specs.UnfollowedEvents.{IsFirstUnfollowed}
use Rattle.pct_event_judge.specs.declared.findings.EventLaw.{EventLaw}
use Rattle.pct_event_judge.specs.declared.findings.EventLaw.TheVariants as law
use Rattle.pct_event_judge.specs.declared.findings.Findings.{Findings}

-- of the first n events, event k is the first that a law does not allow
pub record IsFirstRefused (allows : Event → List Event → Bool) (events : List Event) (n k : ℕ) : Type 0 where
  pub positive : 0 < k
  pub within : k ≤ n
  -- those before it keep the law, and with it they do not
  pub kept : each allows (first_events (k - 1) events) ≡ true
  pub refused : each allows (first_events k events) ≡ false

-- of the first n events, the first that a law does not allow is this one; with none they keep the law
abbrev pub IsFound : (Event → List Event → Bool) → List Event → ℕ → Option ℕ → Type 0
IsFound allows events n None = each allows (first_events n events) ≡ true
IsFound allows events n (Some k) = IsFirstRefused allows events n k

-- of the first n events, the first that each law does not allow: `passes` is the limit on the passes over destructors, and `slots` the
-- number of thread slots of a process
pub record AreFoundIn (passes slots : ℕ) (events : List Event) (n : ℕ) (found : Findings) : Type 0 where
  -- handlers and destructors, and that the handlers that ran are those that were open
  pub once : IsFound (Once.allows passes) events n found.once
  pub ran_all : IsFound RanAll.allows events n found.ran_all
  -- what follows the end of a thread
  pub after_end : IsFound AfterEnd.allows events n found.after_end
  -- processes
  pub process : IsFound ProcessLaw.allows events n found.process
  -- ids and slots of new threads
  pub slot : IsFound (SlotLaw.allows slots) events n found.slot
  -- joins, and the threads that are named
  pub join : IsFound JoinLaw.allows events n found.join
  -- mutexes and condition waits
  pub cond : IsFound CondLaw.allows events n found.cond
  -- once controls
  pub call_once : IsFound OnceLaw.allows events n found.call_once
  -- requests, and what acts on them
  pub requests : IsFound RequestsLaw.allows events n found.requests
  -- keys of destructors
  pub keys : IsFound KeysLaw.allows events n found.keys

-- what is found of some events
pub record AreFindings (passes slots : ℕ) (events : List Event) (found : Findings) : Type 0 where
  pub laws : AreFoundIn passes slots events (length events) found
  -- the first event that values are left which is not directly followed by the end of its thread
  pub leftover : IsFirstUnfollowed events found.leftover

-- each law is kept
abbrev pub all_kept : Findings
all_kept = record {
  once = None;
  ran_all = None;
  after_end = None;
  process = None;
  slot = None;
  join = None;
  cond = None;
  call_once = None;
  requests = None;
  keys = None;
  leftover = None;
}

-- whether it is so
abbrev pub are_kept : Findings → Bool
are_kept found =
    is_none found.once && is_none found.ran_all && is_none found.after_end && is_none found.process && is_none found.slot && is_none found.join
    && is_none found.cond && is_none found.call_once && is_none found.requests && is_none found.keys && is_none found.leftover

-- the laws, in the order in which they are named
abbrev pub event_laws : List EventLaw
event_laws =
    law.Once ∷ law.RanAll ∷ law.AfterEnd ∷ law.Process ∷ law.Slot ∷ law.Join ∷ law.Cond ∷ law.CallOnce ∷ law.Requests ∷ law.Keys ∷ law.Leftover ∷ []

-- what is found of a law
abbrev pub found_of : EventLaw → Findings → Option ℕ
found_of law.Once found = found.once
found_of law.RanAll found = found.ran_all
found_of law.AfterEnd found = found.after_end
found_of law.Process found = found.process
found_of law.Slot found = found.slot
found_of law.Join found = found.join
found_of law.Cond found = found.cond
found_of law.CallOnce found = found.call_once
found_of law.Requests found = found.requests
found_of law.Keys found = found.keys
found_of law.Leftover found = found.leftover
