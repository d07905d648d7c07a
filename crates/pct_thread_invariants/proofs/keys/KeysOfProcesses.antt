-- After every run, what is kept of keys holds of the keys of each process, and the data of its threads are empty at each place without a
-- key.
use Rattle.pct_names.proofs.Names.{◌&&◌, ap, body_at, Bool, changed, child_of, cond, cond_some, Config, Entry, Environment, environment_of}
use Rattle.pct_names.proofs.Names.{false, find, first_process, has_valid_id, is_waiting_on, KeyPlace, List, MAX_KEYS, moved, named_after}
use Rattle.pct_names.proofs.Names.{NamedAction, nat_eq, next_of, not, Option, own_after, OwnAction, Process, refl, Script, shared_moved}
use Rattle.pct_names.proofs.Names.{SharedState, Some, subst, sym, Thread, thread_moved, thread_with, Transition, transition_by, true}
use Rattle.pct_names.proofs.Names.{unblocked, World, ℕ, ◌∙◌, ◌≡◌}
use Rattle.pct_model.specs.declared.state.Cause.TheVariants as cause
use Rattle.pct_model.specs.declared.transition.NamedAction.TheVariants as named_action
use Rattle.pct_model.specs.declared.transition.OwnAction.TheVariants as own_action
use Rattle.pct_laws.specs.Kept.{KeysKept}
use Rattle.pct_thread_invariants.proofs.lift.ChangedThreads.{either_keeps, going_on_keeps, changed_shared, other_threads, other_shared}
use Rattle.pct_thread_invariants.proofs.lift.TakenSteps.{AfterEveryRun}
use Rattle.pct_thread_invariants.proofs.lift.MadeThreads.{HasValidId}
use Rattle.pct_thread_invariants.proofs.lift.ThreadsAfter.{initial_thread, Moves, mover, each_after}
use Rattle.pct_thread_invariants.proofs.lift.InheritedThreads.{each_heir}
use Rattle.pct_thread_invariants.proofs.lift.EveryProcess.{OfEveryProcess, IsProcessRule, unread, every_process_keeps, moves_of_run}
use Rattle.pct_thread_invariants.proofs.keys.KeyPlaces.{default_of_replicate}
use Rattle.pct_thread_invariants.proofs.keys.KeptKeys.{own_data, named_data, no_keys_kept, AreEmpty, new_empty, empty_after, case_kept}
use Rattle.pct_transition_cases.proofs.CaseOfTransition.{case_of}
use Rattle.pct_transition_cases.proofs.PlacedStatements.{is_placed}
use Rattle.pct_transition_cases.proofs.TransitionCases.{TransitionCase}
use Rattle.pct_thread_invariants.proofs.thread.NamedFunctions.{names_functions}

-- ---- one action

own_specific : (a : Option OwnAction) (t : Thread) → (own_after a t).specific ≡ own_data a t.specific
unfolding own_after
own_specific (Some own_action.PopHandler) t = refl
own_specific _ t = refl

named_specific : (a : Option NamedAction) (t : Thread) → (named_after a t).specific ≡ named_data a t.specific
unfolding named_after
named_specific (Some (named_action.EndJoin id)) t = either_keeps (λ (u : Thread). u.specific) (has_valid_id id t) (record t { joined = true }) t t refl refl
named_specific (Some (named_action.Request id)) t = either_keeps (λ (u : Thread). u.specific) (has_valid_id id t && not t.ended) (record t { pending = true }) t t refl refl
named_specific (Some (named_action.Detach id)) t = either_keeps (λ (u : Thread). u.specific) (has_valid_id id t) (record t { detached = true }) t t refl refl
named_specific (Some (named_action.Wake id)) t = either_keeps (λ (u : Thread). u.specific) (has_valid_id id t) (record t { status = unblocked cause.Signalled t.status }) t t refl refl
named_specific (Some (named_action.WakeAll c)) t = either_keeps (λ (u : Thread). u.specific) (is_waiting_on c t.status) (record t { status = unblocked cause.Broadcast t.status }) t t refl refl
named_specific _ t = refl

-- the data of a thread after a transition of the one with an id
pub data_moved : (tid : ℕ) (o : Transition) (t : Thread) → (thread_moved tid o t).specific ≡ named_data o.named (cond (has_valid_id tid t) (own_data o.own t.specific) t.specific)
data_moved tid o t = named_specific o.named (cond (has_valid_id tid t) (moved o t) t) ∙ ap (named_data o.named) (by_live (has_valid_id tid t))
  where
    by_live : (live : Bool) → (cond live (moved o t) t).specific ≡ cond live (own_data o.own t.specific) t.specific
    by_live true = own_specific o.own _ ∙ ap (own_data o.own) (going_on_keeps (λ (u : Thread). u.specific) (λ t s frames. refl) o.next t)
    by_live false = refl

-- ---- the rule of a process

-- what is kept of the keys of a process, and of the data of its threads
pub record KeysFit (script : Script) (p : Process) : Type 0 where
  pub keys : KeysKept script p.shared.keys
  pub empty : (tid : ℕ) (t : Thread) → thread_with tid p ≡ Some t → AreEmpty p.shared.keys t.specific

module _ (script : Script) (config : Config) (w : World) (p : Process) (e : Entry) (t : Thread) (moves : Moves script config w p e t) (fits : KeysFit script p) where
  abbrev o : Transition
  o = transition_by script config w p t e.alt

  abbrev environment : Environment
  environment = environment_of config w p t.id

  its_case : TransitionCase config.passes (body_at script t.frames) p.shared t environment true (next_of script t.frames) t.status o
  its_case = case_of config.passes (body_at script t.frames) p.shared t environment true e.alt (next_of script t.frames) t.status (λ known. moves.offered)

  -- the keys after the transition
  abbrev next : List KeyPlace
  next = (shared_moved e.tid o p.shared).keys

  empty_next : (id : ℕ) (w : Thread) → thread_with id (changed e.tid o p) ≡ Some w → AreEmpty next w.specific
  empty_next = each_after script config w p e t moves (λ id w. AreEmpty next w.specific)
      (λ id u is. subst (AreEmpty next) (sym (data_moved e.tid o u)) (empty_after script (names_functions script) config.passes e.tid p.shared t environment its_case u.specific (has_valid_id e.tid u) (fits.empty id u is))) (λ id new makes. new_empty next)

  fits_after : KeysFit script (changed e.tid o p)
  fits_after = record {
    keys = subst (λ (s : SharedState). KeysKept script s.keys) (sym (changed_shared e.tid o p)) (case_kept script (names_functions script) config.passes e.tid p.shared t environment fits.keys (is_placed script t.frames) its_case);
    empty = λ id w is. subst (λ (s : SharedState). AreEmpty s.keys w.specific) (sym (changed_shared e.tid o p)) (empty_next id w is);
  }

  -- the process that a fork makes has the same keys, and the data of the replica are outside passes
  born_fits : (new : ℕ) → KeysFit script (child_of e.tid new p)
  unfolding child_of
  born_fits new =
      let it : HasValidId p e.tid t = mover script config w p e t moves in
      record {
        keys = fits.keys;
        empty = each_heir e.tid new p t it (λ id x. AreEmpty p.shared.keys x.specific) (λ place none. ((fits.empty e.tid t it.found place none).0, default_of_replicate MAX_KEYS place false)) fits.empty;
      }

keys_rule : (script : Script) (config : Config) → IsProcessRule unread (λ p k. KeysFit script p) script config (Moves script config)
keys_rule script config = record {
  initial = record {
    keys = no_keys_kept script;
    empty = λ tid t is. subst (λ (u : Thread). AreEmpty (first_process script).shared.keys u.specific) (cond_some (nat_eq 1 tid) (initial_thread script) t is).1 (new_empty (first_process script).shared.keys);
  };
  own = λ w p e t k moves fits. fits_after script config w p e t moves fits;
  born = λ w p e t k new moves fork fits. born_fits script config w p e t moves fits new;
  other = λ pid o p k fits. record {
    keys = subst (λ (s : SharedState). KeysKept script s.keys) (sym (other_shared pid o p)) fits.keys;
    empty = λ tid t is. subst (λ (s : SharedState). AreEmpty s.keys t.specific) (sym (other_shared pid o p)) (fits.empty tid t (ap (λ (threads : List Thread). find (λ u. nat_eq u.id tid) threads) (sym (other_threads pid o p)) ∙ is));
  };
}

-- after every run
pub keys_of_run : (script : Script) (config : Config) → AfterEveryRun script config (OfEveryProcess (KeysFit script))
keys_of_run script config = every_process_keeps script config (Moves script config) (KeysFit script) (keys_rule script config) (moves_of_run script config)
