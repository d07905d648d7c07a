-- A relation between a thread and what the events report of it, that each transition keeps where a rule of its process holds, holds of
-- every thread after every run.
use Rattle.pct_names.proofs.Names.{◌&&◌, Alt, and_left, ap, Bool, changed, child_of, choices_of, cond, Config, Entry, eqb-false, event_of}
use Rattle.pct_names.proofs.Names.{false, false≢true, find, ForkAt, Forking, has_valid_id, holds_slot, List, made_process, made_thread, map}
use Rattle.pct_names.proofs.Names.{moved, named_after, NamedAction, nat_eq, NewThread, None, none-some, offers, Option, option_and_then}
use Rattle.pct_names.proofs.Names.{Process, refl, replica_of, reverse, Run, same_Some, Script, Some, subst, subst₂, sym, Thread}
use Rattle.pct_names.proofs.Names.{thread_moved, thread_with, Transition, transition_by, true, World, ℕ, ◌∙◌, ◌≡◌}
use mathlib.Core.Bool.{and-true, and-false}
use Rattle.std.proofs.Common.{ne_eqb, eqb-true}
use Rattle.std.proofs.lemmas.Bool.{true≢false}
use Rattle.pct_thread_invariants.proofs.lift.KeyedLists.{found_passes}
use Rattle.pct_thread_invariants.proofs.lift.TakenSteps.{AfterEveryRun}
use Rattle.pct_thread_invariants.proofs.lift.ChangedThreads.{other_threads}
use Rattle.pct_thread_invariants.proofs.lift.ReportedBy.{ThreadReading, reported_by, of_thread, after_own, at_birth, after_all, read_step}
use Rattle.pct_thread_invariants.proofs.lift.ThreadsAfter.{initial_thread, created_thread, Moves, mover, After, was_made, is_new, is_absent}
use Rattle.pct_thread_invariants.proofs.lift.ThreadsAfter.{after, same_gone}
use Rattle.pct_thread_invariants.proofs.lift.CreatedThreads.{Forks}
use Rattle.pct_thread_invariants.proofs.lift.InheritedThreads.{Heir, is_replica, is_gone, has_none, heir}
use Rattle.pct_thread_invariants.proofs.lift.EveryProcess.{OfEveryProcess, FitsReports, IsProcessRule, every_process, moves_in}

module _ {T : Type 0} (g : ThreadReading T) (L : Thread → T → Type 0) where
  -- the relation holds of a thread that its process inherited; of another one nothing is reported
  pub record OfMade (t : Thread) (k : T) : Type 0 where
    pub here : t.gone ≡ false → L t k
    pub gone : t.gone ≡ true → k ≡ g.start

  -- and nothing of one that was not made
  abbrev pub OfThread : Option Thread → T → Type 0
  OfThread None k = k ≡ g.start
  OfThread (Some t) k = OfMade t k

  abbrev pub OfEveryThread : Run → Type 0
  OfEveryThread r = (pid tid : ℕ) → OfThread (made_thread pid tid r.world) (reported_by (of_thread g tid) pid r.events)

  pub of_made_thread : (r : Run) → OfEveryThread r → (pid tid : ℕ) (t : Thread) → made_thread pid tid r.world ≡ Some t → t.gone ≡ false → L t (reported_by (of_thread g tid) pid r.events)
  of_made_thread r of pid tid t made here = (subst (λ (found : Option Thread). OfThread found (reported_by (of_thread g tid) pid r.events)) made (of pid tid)).here here

  -- the relation holds of each thread of a process, beside some report
  abbrev pub OfItsThreads : Process → Type 0
  OfItsThreads p = (tid : ℕ) (t : Thread) → thread_with tid p ≡ Some t → t.gone ≡ false → (k : T) × L t k

  -- a relation of every thread, as a rule of every process
  pub of_its_threads : (r : Run) → OfEveryThread r → OfEveryProcess OfItsThreads r
  of_its_threads r of pid p made tid t is here =
      (reported_by (of_thread g tid) pid r.events, of_made_thread r of pid tid t (ap (option_and_then (thread_with tid)) made ∙ is) here)

  -- ---- the threads of a process that a fork makes

  module _ (p : Process) (tid : ℕ) (t : Thread) (k : ℕ → T) (leaf : L (replica_of t) (cond g.inherits (g.replica (k tid) g.start) g.start)) where
    -- what is reported of a thread of the process as it is made, which is the replica or not
    abbrev pub reported_at_birth : ℕ → Bool → T
    reported_at_birth id same = cond (g.inherits && same) (g.replica (k id) g.start) g.start

    nothing : (id : ℕ) → reported_at_birth id false ≡ g.start
    nothing id = ap (λ b. cond b (g.replica (k id) g.start) g.start) (and-false g.inherits)

    -- the relation holds of each of its threads, if it holds of the replica
    pub born_by : (id : ℕ) (same : Bool) {found : Option Thread} → nat_eq tid id ≡ same → Heir p tid t id found → OfThread found (reported_at_birth id same)
    born_by id true same (is_replica named) =
        record { here = λ here. subst₂ (λ n b. L (replica_of t) (cond b (g.replica (k n) g.start) g.start)) (eqb-true tid id same) (sym (and-true g.inherits)) leaf; gone = λ gone. absurd (false≢true gone) }
    born_by id false other (is_gone u found differs) = record { here = λ here. absurd (true≢false here); gone = λ gone. nothing id }
    born_by id false other (has_none differs) = nothing id
    born_by id true same (is_gone u found differs) = absurd (true≢false (sym same ∙ differs))
    born_by id true same (has_none differs) = absurd (true≢false (sym same ∙ differs))
    born_by id false other (is_replica named) = absurd (true≢false (sym named ∙ other))

  module _ (script : Script) (config : Config) (K : Process → Type 0) where
    -- a relation that holds of each new thread and that each step keeps, in a process of which a rule holds
    pub record IsThreadRule : Type 0 where
      pub initial : L (initial_thread script) g.start
      -- the thread that a transition of a thread creates
      pub created : (w : World) (p : Process) (t : Thread) (k : T) (choice : Alt) (new : NewThread) → K p → offers (choices_of script config w p t) choice ≡ true → L t k → (transition_by script config w p t choice).created ≡ Some new → L (created_thread new) g.start
      -- an action of another thread of the process, which may name the thread
      pub named : (a : Option NamedAction) (t : Thread) (k : T) → L t k → L (named_after a t) k
      -- a transition of the thread
      pub kept : (w : World) (p : Process) (t : Thread) (k : T) (choice : Alt) → K p → offers (choices_of script config w p t) choice ≡ true → L t k → L (moved (transition_by script config w p t choice) t) (after_all g (reverse (transition_by script config w p t choice).events) k)
      -- the replica of the thread, in the process that its fork makes
      pub replica : (w : World) (p : Process) (t : Thread) (k : T) (at : ForkAt) → K p → t.status ≡ Forking at → L t k → L (replica_of t) (cond g.inherits (g.replica k g.start) g.start)

    module _ (rule : IsThreadRule) where
      initial_by : (initial : Bool) → OfThread (cond initial (Some (initial_thread script)) None) g.start
      initial_by true = record { here = λ here. rule.initial; gone = λ gone. refl }
      initial_by false = refl

      -- ---- a step

      module _ (w : World) (p : Process) (e : Entry) (t : Thread) (in_process : K p) (moves : Moves script config w p e t) where
        abbrev o : Transition
        o = transition_by script config w p t e.alt

        -- the thread itself
        own_moved : (k : T) → OfMade t k → OfMade (thread_moved e.tid o t) (after_all g (reverse o.events) k)
        own_moved k of =
            let present : t.gone ≡ false = (mover script config w p e t moves).here in
            record {
              here = λ here. rule.named o.named (cond (has_valid_id e.tid t) (moved o t) t) (after_all g (reverse o.events) k)
                  (subst (λ b. L (cond b (moved o t) t) (after_all g (reverse o.events) k)) (sym (mover script config w p e t moves).valid) (rule.kept w p t k e.alt in_process moves.offered (of.here present)));
              gone = λ gone. absurd (true≢false (sym gone ∙ same_gone e.tid o t ∙ present));
            }

        -- another thread
        other_moved : (u : Thread) (k : T) → has_valid_id e.tid u ≡ false → OfMade u k → OfMade (thread_moved e.tid o u) k
        other_moved u k other of = record {
          here = λ here. rule.named o.named (cond (has_valid_id e.tid u) (moved o u) u) k (subst (λ b. L (cond b (moved o u) u) k) (sym other) (of.here (sym (same_gone e.tid o u) ∙ here)));
          gone = λ gone. of.gone (sym (same_gone e.tid o u) ∙ gone);
        }

        module _ (k : ℕ → T) (of : (tid : ℕ) → OfThread (thread_with tid p) (k tid)) where
          of_found : (tid : ℕ) (before : Option Thread) → thread_with tid p ≡ before → OfThread before (k tid)
          of_found tid before is = subst (λ (x : Option Thread). OfThread x (k tid)) is (of tid)

          it_is_made : thread_with e.tid p ≡ Some t
          it_is_made = (mover script config w p e t moves).found

          -- the thread with an id after the step
          moved_by : (tid : ℕ) (same : Bool) {found : Option Thread} → nat_eq e.tid tid ≡ same → After script config w p e t moves tid found → OfThread found (cond same (after_all g (reverse o.events) (k tid)) (k tid))
          moved_by tid true same (was_made u is none) =
              let it : t ≡ u = same_Some t u (sym it_is_made ∙ ap (λ id. thread_with id p) (eqb-true e.tid tid same) ∙ is) in
              subst (λ (x : Thread). OfMade x (k tid) → OfMade (thread_moved e.tid o x) (after_all g (reverse o.events) (k tid))) it (own_moved (k tid)) (of_found tid (Some u) is)
          moved_by tid false differs (was_made u is none) =
              let named : u.id ≡ tid = eqb-true u.id tid (found_passes (λ (x : Thread). nat_eq x.id tid) p.threads u is) in
              other_moved u (k tid) (and_left (nat_eq u.id e.tid) (holds_slot u) (ne_eqb u.id e.tid (λ same. eqb-false e.tid tid differs (sym same ∙ named)))) (of_found tid (Some u) is)
          moved_by tid false differs (is_new new is makes named) =
              let nothing : k tid ≡ g.start = of_found tid None is in
              let it : L t (k e.tid) = (of_found e.tid (Some t) it_is_made).here (mover script config w p e t moves).here in
              record { here = λ here. subst (L (created_thread new)) (sym nothing) (rule.created w p t (k e.tid) e.alt new in_process moves.offered it makes); gone = λ gone. nothing }
          moved_by tid false differs (is_absent is none) = of_found tid None is
          moved_by tid true same (is_new new is makes named) = absurd (none-some t (sym is ∙ ap (λ id. thread_with id p) (sym (eqb-true e.tid tid same)) ∙ it_is_made))
          moved_by tid true same (is_absent is none) = absurd (none-some t (sym is ∙ ap (λ id. thread_with id p) (sym (eqb-true e.tid tid same)) ∙ it_is_made))

          moved_fit : (tid : ℕ) → OfThread (thread_with tid (changed e.tid o p)) (after_own (of_thread g tid) (map (event_of e) (reverse o.events)) (k tid))
          moved_fit tid =
              subst (OfThread (thread_with tid (changed e.tid o p))) (sym (read_step g e tid (nat_eq e.tid tid) refl (reverse o.events) (k tid)))
              (moved_by tid (nat_eq e.tid tid) refl (after script config w p e t moves tid))

          -- the threads of the process that the step makes, if it is a fork
          born_fit : (new : ℕ) → Forks w t.status new o → (tid : ℕ) → OfThread (thread_with tid (child_of e.tid new p)) (at_birth (of_thread g tid) e new (k tid) g.start)
          born_fit new fork tid =
              let it : L t (k e.tid) = (of_found e.tid (Some t) it_is_made).here (mover script config w p e t moves).here in
              born_by p e.tid t k (rule.replica w p t (k e.tid) fork.at in_process fork.in_fork it) tid (nat_eq e.tid tid) refl (heir e.tid new p t (mover script config w p e t moves) tid)

      -- ---- processes

      -- the relation holds of each thread of a process
      abbrev AllThreads : Process → (ℕ → T) → Type 0
      AllThreads p k = (tid : ℕ) → OfThread (thread_with tid p) (k tid)

      process_rule : IsProcessRule (of_thread g) AllThreads script config (λ w p e t. K p × Moves script config w p e t)
      process_rule = record {
        initial = λ tid. initial_by (nat_eq 1 tid);
        own = λ w p e t k known of. moved_fit w p e t known.0 known.1 k of;
        born = λ w p e t k new known fork of. born_fit w p e t known.0 known.1 k of new fork;
        other = λ pid o p k of. subst (λ (threads : List Thread). (tid : ℕ) → OfThread (find (λ t. nat_eq t.id tid) threads) (k tid)) (sym (other_threads pid o p)) of;
      }

      by_process : (tid : ℕ) (found : Option Process) (k : ℕ → T) → FitsReports (of_thread g) AllThreads found k → OfThread (option_and_then (thread_with tid) found) (k tid)
      by_process tid None k nothing = nothing tid
      by_process tid (Some p) k of = of tid

      -- after every run, the relation holds of every thread, if the rule holds of every process
      pub every_thread : AfterEveryRun script config (OfEveryProcess K) → AfterEveryRun script config OfEveryThread
      every_thread of_processes entries r is pid tid =
          by_process tid (made_process pid r.world) (λ id. reported_by (of_thread g id) pid r.events) (every_process (of_thread g) AllThreads script config (λ w p e t. K p × Moves script config w p e t) process_rule (moves_in script config K of_processes) entries r is pid)
