-- The other processes of a run, as the next step of a thread depends on them: the children of its process, and the id that a new process
-- gets.
use Rattle.std.specs.Prelude.{ℕ, suc, Bool, false, not, ◌&&◌, if◌then◌else◌, List, length, map, filter, find, Option, Some, None, is_none, nat_eq, nat_lt, option_map}
use Rattle.std.specs.Option.{option_map_or}
use Rattle.pct_model.specs.declared.limits.TheConstants.{MAX_PROCESSES}
use Rattle.pct_model.specs.declared.process.Child.{Child}
use Rattle.pct_model.specs.declared.process.Relative.{Relative}
use Rattle.pct_model.specs.World.{Process, World, was_reaped}

-- the other processes, as one process sees them
pub record Family : Type 0 where
  -- the child with an id, if it was not reaped (XSH waitpid)
  pub child : ℕ → Option Child
  -- the id that a new process gets. There is none while MAX_PROCESSES processes were made and not reaped, a limit of this host
  pub new_pid : Option ℕ

-- there is a child with the id, and it has not ended
abbrev pub is_running_child : ℕ → Family → Bool
is_running_child pid family = option_map_or (λ child. is_none child.ended) (family.child pid) false

-- ---- of some processes

-- the child of process `parent` with an id, among the processes that were not reaped
abbrev pub child_among : ℕ → List Relative → ℕ → Option Child
child_among parent relatives pid = option_map (λ r. record { ended = r.ended }) (find (λ r. nat_eq r.pid pid && nat_eq r.parent parent) relatives)

-- the id of the next process, where this many were made, of which these were not reaped. Processes are numbered from 1, in the order in
-- which they are made: a choice of this host
abbrev pub pid_after : ℕ → List Relative → Option ℕ
pid_after made relatives = if nat_lt (length relatives) MAX_PROCESSES then Some (suc made) else None

-- the other processes, as the one with an id sees them
unfoldable pub family_among : ℕ → List Relative → ℕ → Family
family_among made relatives pid = record { child = child_among pid relatives; new_pid = pid_after made relatives }

-- ---- of a state

-- the process was not reaped
abbrev pub is_unreaped : Process → Bool
is_unreaped p = not (was_reaped p.ended)

-- its ids and its end
abbrev pub relative_of : Process → Relative
relative_of p = record { pid = p.pid; parent = p.parent; ended = option_map (λ end. end.status) p.ended }

-- the other processes, as the one with an id sees them
abbrev pub family_of : World → ℕ → Family
family_of w pid = family_among (length w.processes) (map relative_of (filter is_unreaped w.processes)) pid
