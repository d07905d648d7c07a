-- After every run the owners of mutexes are those that the events report, and a mutex is acquired while no thread owns it, and released by
-- its owner.
use Rattle.pct_names.proofs.Names.{◌++◌, body_at, changed, child_of, Config, Entry, Environment, environment_of, Event, event_of, length}
use Rattle.pct_names.proofs.Names.{length-replicate, List, map, next_of, Process, refl, replicate, reverse, Script, SharedState}
use Rattle.pct_names.proofs.Names.{slice_index, subst, suc, sym, Thread, Transition, transition_by, true, World, zero, ℕ, ◌∙◌, ◌≡◌}
use Rattle.pct_laws.specs.Each.{each}
use Rattle.pct_laws.specs.CondLaw.{owners_allow}
use Rattle.pct_laws.specs.Kept.{IsSuspendedAt, EachProcess, OwnersKept}
use Rattle.pct_transition_cases.proofs.CaseOfTransition.{case_of}
use Rattle.pct_transition_cases.proofs.PlacedStatements.{is_placed}
use Rattle.pct_transition_cases.proofs.TransitionCases.{TransitionCase}
use Rattle.pct_thread_invariants.proofs.ThreadsOfRun.{threads_kept}
use Rattle.pct_thread_invariants.proofs.lift.ChangedThreads.{changed_shared, other_shared}
use Rattle.pct_thread_invariants.proofs.lift.MadeThreads.{HasValidId}
use Rattle.pct_thread_invariants.proofs.lift.ReportedBy.{reported_by, after_own}
use Rattle.pct_thread_invariants.proofs.lift.TakenSteps.{AfterEveryRun, every_run}
use Rattle.pct_thread_invariants.proofs.lift.ThreadsAfter.{Moves, mover}
use Rattle.pct_thread_invariants.proofs.lift.EveryProcess.{Known, process_taken, moves_of_run, AllFit, of_made, IsProcessRule}
use Rattle.pct_thread_invariants.proofs.lift.EveryProcess.{every_process}
use Rattle.pct_cancel_laws.proofs.owners.OwnerTransitions.{owner, owner_reading, OwnersFit, case_fits, case_lawful}

-- before the first step no mutex has an owner
no_owner : (mutexes m : ℕ) → slice_index (replicate mutexes 0) m ≡ 0
no_owner zero m = refl
no_owner (suc mutexes) zero = refl
no_owner (suc mutexes) (suc m) = no_owner mutexes m

module _ (script : Script) (config : Config) where
  -- the owners of the mutexes of a process
  abbrev Fit : Process → (ℕ → ℕ) → Type 0
  Fit p reported = OwnersFit script p.shared.owners reported

  -- the entry moves thread t of the process, which stands at the call in which it is suspended
  abbrev MovesAt : World → Process → Entry → Thread → Type 0
  MovesAt w p e t = Moves script config w p e t × IsSuspendedAt (next_of script t.frames) t.status

  moves_at : AfterEveryRun script config (Known script config MovesAt)
  moves_at before r is e p t taken =
      let moves : Moves script config r.world p e t = moves_of_run script config before r is e p t taken in
      let it : HasValidId p e.tid t = mover script config r.world p e t moves in
      (moves, (threads_kept script config before r is e.pid e.tid p t (process_taken script config before r is e p t taken) it.found it.here).suspended)

  module _ (w : World) (p : Process) (e : Entry) (t : Thread) (moves : MovesAt w p e t) where
    abbrev o : Transition
    o = transition_by script config w p t e.alt

    abbrev environment : Environment
    environment = environment_of config w p t.id

    its_id : t.id ≡ e.tid
    its_id = (mover script config w p e t moves.0).number

    its_case : TransitionCase config.passes (body_at script t.frames) p.shared t environment true (next_of script t.frames) t.status o
    its_case = case_of config.passes (body_at script t.frames) p.shared t environment true e.alt (next_of script t.frames) t.status (λ known. moves.0.offered)

    fit_after : (reported : ℕ → ℕ) → Fit p reported → Fit (changed e.tid o p) (λ m. after_own (owner m) (map (event_of e) (reverse o.events)) (reported m))
    fit_after reported fits =
        subst (λ (s : SharedState). OwnersFit script s.owners (λ m. after_own (owner m) (map (event_of e) (reverse o.events)) (reported m))) (sym (changed_shared e.tid o p))
        (case_fits script config.passes p.shared t environment e its_id reported fits (is_placed script t.frames) moves.1 its_case)

    lawful_after : (earlier : List Event) → Fit p (λ m. reported_by (owner m) e.pid earlier) → each owners_allow earlier ≡ true → each owners_allow (map (event_of e) (reverse o.events) ++ earlier) ≡ true
    lawful_after earlier fits = case_lawful script config.passes p.shared t environment e its_id earlier fits its_case

  owners_rule : IsProcessRule owner Fit script config MovesAt
  unfolding child_of
  owners_rule = record {
    initial = record { places = length-replicate (length script.mutexes) 0; same = no_owner (length script.mutexes) };
    own = λ w p e t k moves fits. fit_after w p e t moves k fits;
    born = λ w p e t k new moves fork fits. fits;
    other = λ pid o p k fits. subst (λ (s : SharedState). OwnersFit script s.owners k) (sym (other_shared pid o p)) fits;
  }

  owners_fit : AfterEveryRun script config (AllFit owner Fit)
  owners_fit = every_process owner Fit script config MovesAt owners_rule moves_at

  -- the owners of the mutexes of each process
  pub owners_kept : AfterEveryRun script config (λ r. EachProcess r.world (λ pid p. OwnersKept script pid p r.events))
  owners_kept entries r is pid p made =
      let fits = of_made owner Fit r (owners_fit entries r is) pid p made in
      record { mutexes = fits.places; owners = λ m. fits.same m ∙ sym (owner_reading m pid r.events) }

  -- the law of the owners of mutexes
  pub owners_of_run : AfterEveryRun script config (λ r. each owners_allow r.events ≡ true)
  owners_of_run = every_run script config (λ r. each owners_allow r.events ≡ true) (λ before r is e p t taken.
      lawful_after r.world p e t (moves_at before r is e p t taken) r.events (of_made owner Fit r (owners_fit before r is) e.pid p (process_taken script config before r is e p t taken))) (λ some. refl)
