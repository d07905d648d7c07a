-- The lift from steps to runs: a relation between a process and what the events report of it, which each step keeps, and which a fork
-- passes on to the process that it makes, holds of every process after every run.
use Rattle.pct_names.proofs.Names.{◌++◌, [], after_transition, ap, Bool, changed, child_of, cond, Config, Entry, Event, event_of, false}
use Rattle.pct_names.proofs.Names.{find, first_process, Forked, forks_by, List, list_any, made_process, map, nat_eq, None, none-some}
use Rattle.pct_names.proofs.Names.{opening, Option, option_map, option_or, or_from, other_process_after, Process, process_moved, refl}
use Rattle.pct_names.proofs.Names.{reverse, Run, same_Some, Script, Some, subst, subst₂, sym, Thread, Transition, transition_by, true, What}
use Rattle.pct_names.proofs.Names.{World, ℕ, ◌∙◌, ◌∷◌, ◌≡◌}
use mathlib.Core.Path.{fun_ext}
use Rattle.std.proofs.Common.{eqb-true, ne_eqb}
use Rattle.pct_laws.specs.KnownThreads.{makes_process}
use Rattle.pct_thread_invariants.proofs.lift.KeyedLists.{found_passes, not_found}
use Rattle.pct_thread_invariants.proofs.lift.TakenSteps.{IsTaken, first_run, AfterEveryRun, every_run}
use Rattle.pct_thread_invariants.proofs.lift.CreatedThreads.{Forks, Makes, makes_none, forks}
use Rattle.pct_thread_invariants.proofs.lift.ThreadIds.{HaveIds}
use Rattle.pct_thread_invariants.proofs.lift.MadeThreads.{child_made, IsStep, is_step, process_after_step, other_process_is}
use Rattle.pct_thread_invariants.proofs.lift.MadeThreads.{process_is_made, own_process_is}
use Rattle.pct_thread_invariants.proofs.lift.ProcessIds.{HavePids, next_is_new, was_made, ids_of_made, have_pids}
use Rattle.pct_thread_invariants.proofs.lift.ReportedBy.{Reading, reported_by, after_own, own_after, other_after, at_birth, born_after}
use Rattle.pct_thread_invariants.proofs.lift.ThreadsAfter.{Moves}

-- the rule holds of every process that was made
abbrev pub OfEveryProcess : (Process → Type 0) → Run → Type 0
OfEveryProcess K r = (pid : ℕ) (p : Process) → made_process pid r.world ≡ Some p → K p

module _ (script : Script) (config : Config) where
  -- what is known of each legal entry that goes on from a run
  abbrev pub Known : (World → Process → Entry → Thread → Type 0) → Run → Type 0
  Known M r = (e : Entry) (p : Process) (t : Thread) → IsTaken script config r.world e p t → M r.world p e t

  -- its process
  pub process_taken : AfterEveryRun script config (λ r. (e : Entry) (p : Process) (t : Thread) → IsTaken script config r.world e p t → made_process e.pid r.world ≡ Some p)
  process_taken entries r is e p t taken = process_is_made e.pid e.tid r.world p (have_pids script config entries r is).distinct taken.is_process

module _ {T : Type 0} (f : ℕ → Reading T) (R : Process → (ℕ → T) → Type 0) where
  -- what events report of a process, by each of some readings
  abbrev pub reported : ℕ → List Event → ℕ → T
  reported pid events n = reported_by (f n) pid events

  -- of a process that was not made they report nothing
  abbrev pub FitsReports : Option Process → (ℕ → T) → Type 0
  FitsReports None k = (n : ℕ) → k n ≡ (f n).start false
  FitsReports (Some p) k = R p k

  -- the relation holds of every process
  abbrev pub AllFit : Run → Type 0
  AllFit r = (pid : ℕ) → FitsReports (made_process pid r.world) (reported pid r.events)

  pub of_made : (r : Run) → AllFit r → (pid : ℕ) (p : Process) → made_process pid r.world ≡ Some p → R p (reported pid r.events)
  of_made r fit pid p is = subst (λ (found : Option Process). FitsReports found (reported pid r.events)) is (fit pid)

  module _ (script : Script) (config : Config) (M : World → Process → Entry → Thread → Type 0) where
    -- the relation holds of the initial process, and each step keeps it, where this is known of the step
    pub record IsProcessRule : Type 0 where
      pub initial : R (first_process script) (λ n. (f n).start true)
      -- a transition of a thread of the process
      pub own : (w : World) (p : Process) (e : Entry) (t : Thread) (k : ℕ → T) → M w p e t → R p k
          → R (changed e.tid (transition_by script config w p t e.alt) p) (λ n. after_own (f n) (map (event_of e) (reverse (transition_by script config w p t e.alt).events)) (k n))
      -- the process that a fork of a thread of the process makes
      pub born : (w : World) (p : Process) (e : Entry) (t : Thread) (k : ℕ → T) (new : ℕ) → M w p e t → Forks w t.status new (transition_by script config w p t e.alt) → R p k
          → R (child_of e.tid new p) (λ n. at_birth (f n) e new (k n) ((f n).start false))
      -- a transition of a thread of another process
      pub other : (pid : ℕ) (o : Transition) (p : Process) (k : ℕ → T) → R p k → R (other_process_after pid o.process p) k

    module _ (rule : IsProcessRule) where
      first_by : (initial : Bool) → FitsReports (cond initial (Some (first_process script)) None) (λ n. (f n).start initial)
      first_by true = rule.initial
      first_by false = λ n. refl

      first_fit : AllFit (first_run script)
      unfolding opening
      first_fit pid = first_by (nat_eq 1 pid)

      -- ---- a step

      module _ (r : Run) (e : Entry) (p : Process) (t : Thread) (taken : IsTaken script config r.world e p t) (pids : HavePids config.slots r.world) (known : M r.world p e t) (fit : AllFit r) where
        abbrev o : Transition
        o = transition_by script config r.world p t e.alt

        -- its events, newest first
        abbrev added : List What
        added = reverse o.events

        -- what is reported after it
        abbrev later : ℕ → ℕ → T
        later pid = reported pid (map (event_of e) added ++ r.events)

        process_is : made_process e.pid r.world ≡ Some p
        process_is = process_is_made e.pid e.tid r.world p pids.distinct taken.is_process

        own_process : R (process_moved e.pid e.tid o p) (later e.pid)
        own_process =
            subst₂ R (sym (own_process_is e.pid e.tid r.world p pids.distinct taken.is_process o)) (fun_ext (λ n. sym (own_after (f n) e r.events added)))
            (rule.own r.world p e t (reported e.pid r.events) known (of_made r fit e.pid p process_is))

        -- a process that was made before, which no event makes again
        process_by : (pid : ℕ) (q : Process) (same : Bool) → made_process pid r.world ≡ Some q → nat_eq e.pid pid ≡ same → list_any (makes_process pid) added ≡ false → R q (reported pid r.events) → R (process_moved e.pid e.tid o q) (later pid)
        process_by pid q true is same quiet holds =
            let it : e.pid ≡ pid = eqb-true e.pid pid same in
            subst₂ (λ (n : ℕ) (x : Process). R (process_moved e.pid e.tid o x) (later n)) it (same_Some p q (sym process_is ∙ ap (λ n. made_process n r.world) it ∙ is)) own_process
        process_by pid q false is differs quiet holds =
            subst₂ R (sym (other_process_is e.pid e.tid o q pid (found_passes (λ (x : Process). nat_eq x.pid pid) r.world.processes q is) differs)) (fun_ext (λ n. sym (other_after (f n) e r.events pid differs added quiet)))
            (rule.other e.pid o q (reported pid r.events) holds)

        -- the process with an id that the step makes
        abbrev child : ℕ → Process
        child new = child_of e.tid new p

        added_is : (new : ℕ) → Forks r.world t.status new o → added ≡ Forked new ∷ []
        unfolding forks_by
        added_is new fork = ap (λ (x : Transition). reverse x.events) fork.is

        -- no event makes another process
        quiet_of : (new : ℕ) → Forks r.world t.status new o → (pid : ℕ) → nat_eq new pid ≡ false → list_any (makes_process pid) added ≡ false
        quiet_of new fork pid other = ap (list_any (makes_process pid)) (added_is new fork) ∙ or_from (nat_eq new pid) false other refl

        fit_by : (pid : ℕ) (found : Option Process) {made : Option ℕ} → made_process pid r.world ≡ found → FitsReports found (reported pid r.events) → Makes r.world t.status o made
            → FitsReports (option_or (option_map (process_moved e.pid e.tid o) found) (find (λ q. nat_eq q.pid pid) (child_made e.tid p made))) (later pid)
        unfolding child_of
        fit_by pid (Some q) is holds (makes_none nothing quiet) = process_by pid q (nat_eq e.pid pid) is refl (quiet pid) holds
        fit_by pid (Some q) is holds (forks new fork) =
            let absent : made_process new r.world ≡ None = not_found (λ (x : Process). x.pid) new r.world.processes (next_is_new config.slots r.world pids new fork.is_next) in
            let differs : nat_eq new pid ≡ false = ne_eqb new pid (λ same. none-some q (sym absent ∙ ap (λ n. made_process n r.world) same ∙ is)) in
            process_by pid q (nat_eq e.pid pid) is refl (quiet_of new fork pid differs) holds
        fit_by pid None is holds makes = new_by makes
          where
            differs : nat_eq e.pid pid ≡ false
            differs = ne_eqb e.pid pid (λ same. none-some p (sym is ∙ ap (λ n. made_process n r.world) (sym same) ∙ process_is))

            unmade : list_any (makes_process pid) added ≡ false → FitsReports None (later pid)
            unmade quiet = λ n. other_after (f n) e r.events pid differs added quiet ∙ holds n

            forked : (new : ℕ) → Forks r.world t.status new o → (same : Bool) → nat_eq new pid ≡ same → FitsReports (cond same (Some (child new)) None) (later pid)
            forked new fork true same =
                let event : added ≡ Forked pid ∷ [] = added_is new fork ∙ ap (λ m. Forked m ∷ []) (eqb-true new pid same) in
                let born : ℕ → ℕ → T = λ m n. at_birth (f n) e m (reported e.pid r.events n) ((f n).start false) in
                let is_born : (n : ℕ) → later pid n ≡ born pid n = λ n. ap (λ (events : List What). reported_by (f n) pid (map (event_of e) events ++ r.events)) event ∙ born_after (f n) e r.events pid differs ∙ ap (at_birth (f n) e pid (reported e.pid r.events n)) (holds n) in
                subst (R (child new)) (fun_ext (λ n. ap (λ (m : ℕ). born m n) (eqb-true new pid same) ∙ sym (is_born n))) (rule.born r.world p e t (reported e.pid r.events) new known fork (of_made r fit e.pid p process_is))
            forked new fork false other = unmade (quiet_of new fork pid other)

            new_by : {made : Option ℕ} → Makes r.world t.status o made → FitsReports (find (λ q. nat_eq q.pid pid) (child_made e.tid p made)) (later pid)
            new_by (makes_none nothing quiet) = unmade (quiet pid)
            new_by (forks new fork) = forked new fork (nat_eq new pid) refl

        fit_after : (after : World) → IsStep e p t o r.world after → AllFit (record { world = after; events = map (event_of e) added ++ r.events })
        fit_after after step pid =
            subst (λ (q : Option Process). FitsReports q (later pid)) (sym (process_after_step e p t o r.world after step pid)) (fit_by pid (made_process pid r.world) refl (fit pid) step.makes)

      -- ---- every run

      -- after every run, the relation holds of every process
      pub every_process : AfterEveryRun script config (Known script config M) → AfterEveryRun script config AllFit
      every_process known =
          every_run script config AllFit (λ before r is e p t taken fit.
          let o : Transition = transition_by script config r.world p t e.alt in
          let pids : HavePids config.slots r.world = have_pids script config before r is in
          let ids : HaveIds config.slots p.threads = ids_of_made config.slots r.world pids e.pid p (process_is_made e.pid e.tid r.world p pids.distinct taken.is_process) in
          fit_after r e p t taken pids (known before r is e p t taken) fit (after_transition e.pid e.tid o r.world) (is_step script config r.world e p t pids.distinct ids.distinct taken)) (λ some. first_fit)

-- ---- rules of processes alone

-- no event reports anything
abbrev pub unread : ℕ → Reading (Unit {0})
unread n = record { start = λ initial. tt; next = λ e k. tt; inherits = λ e. false; born = λ parent k. tt }

module _ (script : Script) (config : Config) where
  -- after every run, a rule of processes holds of every process, if each step keeps it, where something is known of the step
  pub every_process_keeps : (M : World → Process → Entry → Thread → Type 0) (Q : Process → Type 0) → IsProcessRule unread (λ p k. Q p) script config M → AfterEveryRun script config (Known script config M) → AfterEveryRun script config (OfEveryProcess Q)
  every_process_keeps M Q rule known entries r is = of_made unread (λ p k. Q p) r (every_process unread (λ p k. Q p) script config M rule known entries r is)

  -- ---- the ids of threads

  pub ids_of_run : AfterEveryRun script config (OfEveryProcess (λ p. HaveIds config.slots p.threads))
  ids_of_run entries r is pid p made = ids_of_made config.slots r.world (have_pids script config entries r is) pid p made

  -- a legal entry moves a thread whose process has ids
  pub moves_of_run : AfterEveryRun script config (Known script config (Moves script config))
  moves_of_run entries r is e p t taken =
      let pids : HavePids config.slots r.world = have_pids script config entries r is in
      let process_is : made_process e.pid r.world ≡ Some p = process_taken script config entries r is e p t taken in
      record { is_thread = taken.is_thread; offered = taken.offered; some = pids.some; ids = ids_of_run entries r is e.pid p process_is; made = was_made config.slots r.world pids e.pid p process_is }

  -- and what holds of every process holds of its process
  pub moves_in : (K : Process → Type 0) → AfterEveryRun script config (OfEveryProcess K) → AfterEveryRun script config (Known script config (λ w p e t. K p × Moves script config w p e t))
  moves_in K of_processes entries r is e p t taken = (of_processes entries r is e.pid p (process_taken script config entries r is e p t taken), moves_of_run entries r is e p t taken)
