-- The id of a new thread is that of no known thread of its process.
use Rattle.pct_names.proofs.Names.{ap, Config, Entry, false, List, made_process, NewThread, None, not, Option, option_and_then}
use Rattle.pct_names.proofs.Names.{option_map_or, Process, Run, run, Script, Some, Thread, thread_with, ℕ, ◌∙◌, ◌≡◌}
use Rattle.pct_laws.specs.KnownThreads.{is_known}
use Rattle.pct_thread_invariants.proofs.lift.KeyedLists.{not_found}
use Rattle.pct_thread_invariants.proofs.lift.ThreadIds.{is_fresh}
use Rattle.pct_thread_invariants.proofs.lift.ThreadsAfter.{created_thread}
use Rattle.pct_thread_invariants.proofs.lift.ProcessIds.{have_pids}
use Rattle.pct_thread_invariants.proofs.lift.EveryProcess.{ids_of_run}
use Rattle.pct_join_laws.proofs.joins.ReportedFlags.{known_of_run}
use Rattle.pct_join_laws.proofs.slots.FreeSlots.{IsOnFreeSlot}

module _ (script : Script) (config : Config) (entries : List Entry) (r : Run) (is : run script config entries ≡ Some r) (pid : ℕ) (p : Process) (made : made_process pid r.world ≡ Some p) (new : NewThread) (free : IsOnFreeSlot config.slots p.threads new.id) where
  -- no thread of the process has the id, not even one that the process did not inherit
  absent : thread_with new.id p ≡ None
  absent = not_found (λ (t : Thread). t.id) new.id p.threads (is_fresh config.slots p.threads (ids_of_run script config entries r is pid p made) (created_thread new) (free.item, free.low, free.is) (have_pids script config entries r is).some)

  -- no known thread has it
  pub is_fresh_id : is_known pid new.id r.events ≡ false
  is_fresh_id = known_of_run script config entries r is pid new.id ∙ ap (λ (found : Option Thread). option_map_or (λ t. not t.gone) found false) (ap (option_and_then (thread_with new.id)) made ∙ absent)
