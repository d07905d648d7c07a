-- After every run each process has the globals of the script, each frame has its locals, and each thread has a value for each place of keys.
use Rattle.pct_names.proofs.Names.{[], All, All-from_recursion, ap, at_pc, Bool, child_of, cond, cond_some, Config, Dest, false, find}
use Rattle.pct_names.proofs.Names.{Frame, frames_written, has_valid_id, key_place, KeyValues, length, length-replicate, List, made_process}
use Rattle.pct_names.proofs.Names.{MAX_KEYS, moved, NamedAction, nat_eq, None, Option, option_and_then_some, own_after, OwnAction, Process}
use Rattle.pct_names.proofs.Names.{refl, Script, SharedState, slice_set, Some, subst, sym, Thread, thread_at, thread_moved, thread_with}
use Rattle.pct_names.proofs.Names.{Transition, transition_by, true, without_first, written, ℕ, ◌∙◌, ◌∷◌, ◌≡◌}
use Rattle.std.proofs.lemmas.List.{length-set}
use Rattle.pct_model.specs.declared.limits.TheConstants.{MAX_LOCALS}
use Rattle.pct_model.specs.declared.statement.Dest.TheVariants as destination
use Rattle.pct_model.specs.declared.transition.NamedAction.TheVariants as named_action
use Rattle.pct_model.specs.declared.transition.OwnAction.TheVariants as own_action
use Rattle.pct_laws.specs.Kept.{EachProcess, EachThread}
use Rattle.pct_thread_invariants.proofs.lift.ChangedThreads.{either_keeps, named_keeps, changed_shared, other_threads, other_shared}
use Rattle.pct_thread_invariants.proofs.keys.KeptKeys.{own_data, named_data}
use Rattle.pct_thread_invariants.proofs.keys.KeysOfProcesses.{data_moved}
use Rattle.pct_thread_invariants.proofs.lift.TakenSteps.{AfterEveryRun}
use Rattle.pct_thread_invariants.proofs.lift.MadeThreads.{HasValidId}
use Rattle.pct_thread_invariants.proofs.lift.ThreadsAfter.{initial_thread, Moves, mover, each_after}
use Rattle.pct_thread_invariants.proofs.lift.InheritedThreads.{each_heir}
use Rattle.pct_thread_invariants.proofs.lift.EveryProcess.{OfEveryProcess, IsProcessRule, unread, every_process_keeps, moves_of_run}
use Rattle.pct_ending_laws.proofs.results.Stores.{HaveLocals, globals_kept}

-- ---- threads

-- the frames of a thread have their locals, and it has its values
pub record HasVariables (script : Script) (t : Thread) : Type 0 where
  pub locals : HaveLocals script t.frames
  pub values : length t.specific.values ≡ MAX_KEYS

module _ (script : Script) where
  -- a number that is written, a new pc, and a return keep the locals
  all_written : (writes : List (Dest × ℕ)) (frames : List Frame) → HaveLocals script frames
      → HaveLocals script (written frames_written writes frames)
  all_written [] frames have = have
  all_written ((destination.Local i, v) ∷ writes) [] have = all_written writes [] have
  all_written ((destination.Local i, v) ∷ writes) (frame ∷ below) have =
      all_written writes (record frame { locals = slice_set frame.locals i v } ∷ below) (length-set frame.locals i v ∙ have.0, have.1)
  all_written ((_, v) ∷ writes) frames have = all_written writes frames have

  gone_on : (pc : ℕ) (frames : List Frame) → HaveLocals script frames → HaveLocals script (at_pc pc frames)
  gone_on pc [] have = tt
  gone_on pc (frame ∷ below) have = have

  pub start_has : (next : Option ℕ) (t : Thread) → HaveLocals script t.frames → HaveLocals script (thread_at next t).frames
  unfolding thread_at
  start_has None t have = have
  start_has (Some pc) t have = gone_on pc t.frames have

  left : (frames : List Frame) → HaveLocals script frames → HaveLocals script (without_first frames)
  left [] have = tt
  left (frame ∷ below) have = have.1

  own_keeps : (a : Option OwnAction) (t : Thread) → HaveLocals script t.frames → HaveLocals script (own_after a t).frames
  unfolding own_after
  own_keeps (Some (own_action.Call f a kind)) t have = (refl, have)
  own_keeps (Some (own_action.CallHandler f a)) t have = (refl, have)
  own_keeps (Some (own_action.CallForkHandler at f)) t have = (refl, have)
  own_keeps (Some (own_action.RunHandler f a)) t have = (refl, tt)
  own_keeps (Some (own_action.RunDestructor k f v)) t have = (refl, tt)
  own_keeps (Some (own_action.RunExitFunction f)) t have = (refl, tt)
  own_keeps (Some (own_action.Leave status)) t have = left t.frames have
  own_keeps (Some (own_action.BeginEnd why)) t have = tt
  own_keeps (Some own_action.BeginExit) t have = tt
  own_keeps (Some own_action.EndLast) t have = tt
  own_keeps _ t have = have

  -- so does the data of a thread its number of values
  own_values : (a : Option OwnAction) (own : KeyValues) → length (own_data a own).values ≡ length own.values
  own_values (Some (own_action.SetSpecific k v)) own = length-set own.values (key_place k) v
  own_values (Some (own_action.RunDestructor k f v)) own = length-set own.values (key_place k) 0
  own_values _ own = refl

  named_values : (a : Option NamedAction) (own : KeyValues) → length (named_data a own).values ≡ length own.values
  named_values (Some (named_action.ForgetKey k)) own = length-set own.values (key_place k) 0
  named_values _ own = refl

  -- each thread that a transition changes keeps them
  moved_keeps : (tid : ℕ) (o : Transition) (t : Thread) → HasVariables script t → HasVariables script (thread_moved tid o t)
  moved_keeps tid o t have = record {
    locals =
        subst (HaveLocals script) (sym (named_keeps (λ (u : Thread). u.frames) (λ t joined pending detached specific s same. refl) o.named _))
        (by_live (has_valid_id tid t));
    values =
        ap (λ (own : KeyValues). length own.values) (data_moved tid o t) ∙ named_values o.named _
        ∙ either_keeps (λ (own : KeyValues). length own.values) (has_valid_id tid t) _ t.specific t.specific (own_values o.own t.specific) refl
        ∙ have.values;
  }
    where
      by_live : (live : Bool) → HaveLocals script (cond live (moved o t) t).frames
      by_live true = own_keeps o.own _ (all_written o.writes (thread_at o.next t).frames (start_has o.next t have.locals))
      by_live false = have.locals

  -- ---- processes

  -- so it is with each thread of a process, and the process has its globals
  pub record HaveVariables (p : Process) : Type 0 where
    pub globals : length p.shared.globals ≡ length script.globals
    pub threads : (tid : ℕ) (t : Thread) → thread_with tid p ≡ Some t → HasVariables script t

  variables_rule : (config : Config) → IsProcessRule unread (λ p k. HaveVariables p) script config (Moves script config)
  unfolding child_of
  variables_rule config = record {
    initial = record {
      globals = length-replicate {A = ℕ} (length script.globals) 0;
      threads = λ tid t is. subst (HasVariables script) (cond_some (nat_eq 1 tid) (initial_thread script) t is).1 (record { locals = (refl, tt); values = length-replicate {A = ℕ} MAX_KEYS 0 });
    };
    own = λ w p e t k moves have. record {
      globals =
          let o : Transition = transition_by script config w p t e.alt in
          ap (λ (s : SharedState). length s.globals) (changed_shared e.tid o p) ∙ globals_kept e.tid o p.shared ∙ have.globals;
      threads = each_after script config w p e t moves (λ id u. HasVariables script u)
          (λ id u is. moved_keeps e.tid (transition_by script config w p t e.alt) u (have.threads id u is))
          (λ id new makes. record { locals = (refl, tt); values = length-replicate {A = ℕ} MAX_KEYS 0 });
    };
    born = λ w p e t k new moves fork have.
        let it : HasValidId p e.tid t = mover script config w p e t moves in
        let replica : HasVariables script t = have.threads e.tid t it.found in
        record {
          globals = have.globals;
          threads = each_heir e.tid new p t it (λ id u. HasVariables script u) (record { locals = replica.locals; values = replica.values })
              (λ id u is. let it : HasVariables script u = have.threads id u is in record { locals = it.locals; values = it.values });
        };
    other = λ pid o p k have. record {
      globals = ap (λ (s : SharedState). length s.globals) (other_shared pid o p) ∙ have.globals;
      threads = λ tid t is. have.threads tid t (ap (λ (threads : List Thread). find (λ u. nat_eq u.id tid) threads) (sym (other_threads pid o p)) ∙ is);
    };
  }

  -- after every run
  pub variables_of_run : (config : Config) → AfterEveryRun script config (OfEveryProcess HaveVariables)
  variables_of_run config =
      every_process_keeps script config (Moves script config) HaveVariables (variables_rule config) (moves_of_run script config)

  pub globals_of_run : (config : Config)
      → AfterEveryRun script config (λ r. EachProcess r.world (λ pid p. length p.shared.globals ≡ length script.globals))
  globals_of_run config entries r is pid p made = (variables_of_run config entries r is pid p made).globals

  thread_of_run : (config : Config) → AfterEveryRun script config (λ r. EachThread r.world (λ pid tid t. HasVariables script t))
  thread_of_run config entries r is pid tid t made here =
      option_and_then_some (thread_with tid) (made_process pid r.world) t made (λ p process_is thread_is. (variables_of_run config entries r is pid p process_is).threads tid t thread_is)

  pub locals_of_run : (config : Config)
      → AfterEveryRun script config (λ r. EachThread r.world (λ pid tid t. All (λ (frame : Frame). length frame.locals ≡ MAX_LOCALS) t.frames))
  locals_of_run config entries r is pid tid t made here =
      All-from_recursion (λ (frame : Frame). length frame.locals ≡ MAX_LOCALS) t.frames (thread_of_run config entries r is pid tid t made here).locals

  pub values_of_run : (config : Config)
      → AfterEveryRun script config (λ r. EachThread r.world (λ pid tid t. length t.specific.values ≡ MAX_KEYS))
  values_of_run config entries r is pid tid t made here = (thread_of_run config entries r is pid tid t made here).values
