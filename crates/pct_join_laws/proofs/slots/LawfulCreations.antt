-- The law of thread ids and slots holds of the events of every run.
use Rattle.pct_names.proofs.Names.{◌++◌, and_from, ap, Bool, Config, Entry, environment_of, event_of, false, List, made_process, map}
use Rattle.pct_names.proofs.Names.{nat_eq, NewThread, NextStatement, not, Process, refl, reverse, Run, run, Script, slot_of, Some, Status}
use Rattle.pct_names.proofs.Names.{Stmt, sym, Thread, thread_with, Transition, true, value_of, What, ◌||◌, ℕ, ◌∙◌, ◌∷◌, ◌≡◌}
use Rattle.std.proofs.Common.{eqb-true}
use Rattle.pct_model.specs.declared.event.What.TheVariants as what
use Rattle.pct_laws.specs.Each.{each}
use Rattle.pct_laws.specs.KnownIds.{known_ids}
use Rattle.pct_laws.specs.SlotLaw.{leaves_slot, may_create, allows}
use Rattle.pct_laws.specs.KnownThreads.{is_known}
use Rattle.pct_laws.specs.ThreadSummary.{is_reclaimed}
use Rattle.pct_join_laws.proofs.slots.KnownIds.{all_from_members, among_known}
use Rattle.pct_transition_cases.proofs.TransitionCases.{TransitionCase, thread_made, fork_handler_called}
use Rattle.pct_thread_invariants.proofs.lift.TakenSteps.{IsTaken, AfterEveryRun, every_run}
use Rattle.pct_thread_invariants.proofs.lift.HandlerEvents.{of_each_phase}
use Rattle.pct_thread_invariants.proofs.lift.MovedThreads.{case_of_step}
use Rattle.pct_thread_invariants.proofs.lift.EveryProcess.{process_taken, moves_of_run}
use Rattle.pct_join_laws.proofs.slots.FreeSlots.{IsOnFreeSlot, is_on_free_slot, is_reclaimed_thread}
use Rattle.pct_join_laws.proofs.slots.FreshIds.{is_fresh_id}
use Rattle.pct_join_laws.proofs.slots.ReclaimedThreads.{IsPresent, known_present, reclaimed_of_run}

-- ---- a step

module _ (script : Script) (config : Config) (before : List Entry) (r : Run) (is : run script config before ≡ Some r) (e : Entry) (p : Process) (t : Thread) (taken : IsTaken script config r.world e p t) where
  -- its process was made
  process_is : made_process e.pid r.world ≡ Some p
  process_is = process_taken script config before r is e p t taken

  -- a thread that is created with the next id of a free slot
  takes_free_slot : (new : NewThread) → IsOnFreeSlot config.slots p.threads new.id → may_create config.slots (what.Created new.id new.detached) e.pid r.events ≡ true
  takes_free_slot new free =
      and_from _ _ (ap not (is_fresh_id script config before r is e.pid p process_is new free)) (all_from_members (leaves_slot config.slots e.pid new.id r.events) (known_ids e.pid r.events) (λ tid among. on_slot tid (sym (among_known tid e.pid r.events) ∙ among) (nat_eq (slot_of config.slots tid) (slot_of config.slots new.id)) refl))
    where
      on_slot : (tid : ℕ) → is_known e.pid tid r.events ≡ true → (same : Bool) → nat_eq (slot_of config.slots tid) (slot_of config.slots new.id) ≡ same → (not same || is_reclaimed e.pid tid r.events) ≡ true
      on_slot tid known false differs = refl
      on_slot tid known true same =
          let it : IsPresent (thread_with tid p) = known_present script config before r is e.pid p process_is tid known in
          let over = is_reclaimed_thread config.slots p.threads new.id free tid it.thread it.is (eqb-true _ _ same) it.here in
          reclaimed_of_run script config before r is e.pid p process_is tid it.thread it.is it.here over.0 over.1

  -- the events of a transition
  case_lawful : {body : List Stmt} {next : NextStatement} {s : Status} {o : Transition} → TransitionCase config.passes body p.shared t (environment_of config r.world p t.id) true next s o → each (allows config.slots) r.events ≡ true
      → each (allows config.slots) (map (event_of e) (reverse o.events) ++ r.events) ≡ true
  unfolding environment_of
  case_lawful (thread_made frame result id f v detached new among) law =
      and_from _ _ (takes_free_slot (record { id = new; detached = detached; func = f; arg = value_of p.shared.globals frame v }) (is_on_free_slot config.slots p.threads new (among refl))) law
  case_lawful (fork_handler_called next at call is) law = of_each_phase (λ (w : What). each (allows config.slots) (event_of e w ∷ r.events) ≡ true) call.func law law law at.phase
  case_lawful _ law = assumption

-- ---- every run

-- the law of thread ids and slots
pub slots_of_run : (script : Script) (config : Config) → AfterEveryRun script config (λ r. each (allows config.slots) r.events ≡ true)
slots_of_run script config = every_run script config (λ r. each (allows config.slots) r.events ≡ true) (λ before r is e p t taken. case_lawful script config before r is e p t taken (case_of_step script config r.world p e t (moves_of_run script config before r is e p t taken))) (λ some. refl)
