-- The law of thread-specific data, of the threads of a process: a step changes no value of another thread than its own, but NULL is left at the
-- place of a key that is deleted; and a new thread has NULL for each key.
use Rattle.pct_names.proofs.Names.{[], and_left, ap, Bool, cond, Config, Entry, Environment, eqb-false, false, false≢true, has_valid_id}
use Rattle.pct_names.proofs.Names.{holds_slot, is_none, Key, key_at, key_place, KeyPlace, KeyValues, List, list_any, MAX_KEYS, NamedAction}
use Rattle.pct_names.proofs.Names.{nat_eq, new_keys, next_key, NextStatement, None, none-some, Option, option_map_or, Process, refl, Run}
use Rattle.pct_names.proofs.Names.{run, same_Some, Script, SharedState, slice_get, Some, Status, Stmt, subst, sym, Thread, thread_moved}
use Rattle.pct_names.proofs.Names.{thread_with, Transition, transition_by, true, value_at, What, without_value, ℕ, ◌∙◌, ◌∷◌, ◌≡◌, ◌≢◌}
use Rattle.std.proofs.Common.{eqb-true, get_or-set_other, ne_eqb}
use Rattle.std.proofs.Math.Bool.{or-false}
use Rattle.pct_model.specs.declared.transition.NamedAction.TheVariants as named_action
use Rattle.pct_laws.specs.ValueLaw.{deletes_at, makes_at, KeepsThread, KeepsThreads}
use Rattle.pct_transition_cases.proofs.TransitionCases.{TransitionCase, fork_handler_called, key_deleted, key_made}
use Rattle.pct_thread_invariants.proofs.keys.KeptKeys.{own_data, named_data}
use Rattle.pct_thread_invariants.proofs.keys.KeyPlaces.{default_of_replicate, default_set, place_of_next}
use Rattle.pct_thread_invariants.proofs.keys.KeysOfProcesses.{data_moved, keys_of_run}
use Rattle.pct_thread_invariants.proofs.lift.EveryProcess.{moves_of_run, process_taken}
use Rattle.pct_thread_invariants.proofs.lift.HandlerEvents.{of_each_phase}
use Rattle.pct_thread_invariants.proofs.lift.KeyedLists.{found_passes}
use Rattle.pct_thread_invariants.proofs.lift.OfferedNumbers.{IsNumberOf, new_key_of}
use Rattle.pct_thread_invariants.proofs.lift.TakenSteps.{IsTaken}
use Rattle.pct_thread_invariants.proofs.lift.ThreadsAfter.{created_thread, Moves, After, was_made, is_new, is_absent, after}
use Rattle.pct_thread_invariants.proofs.lift.MovedThreads.{EveryStep, step_of, case_of_step, every_step}

module _ (place : ℕ) where
  -- the action, if there is one, deletes the key on the place
  abbrev deletes : Option NamedAction → Bool
  deletes (Some (named_action.ForgetKey k)) = nat_eq (key_place k) place
  deletes _ = false

  -- a transition has the event that a key is deleted exactly if an action deletes it
  case_deletes : {passes : ℕ} {body : List Stmt} {shared : SharedState} {t : Thread} {environment : Environment} {next : NextStatement} {s : Status} {o : Transition} → TransitionCase passes body shared t environment true next s o
      → list_any (deletes_at place) o.events ≡ deletes o.named
  case_deletes (key_deleted frame key named) = or-false _
  case_deletes (fork_handler_called next at call is) =
      of_each_phase (λ (w : What). list_any (deletes_at place) (w ∷ []) ≡ false) call.func refl refl refl at.phase
  case_deletes _ = refl

  -- where a transition has the event that a key is made, the place has no key before it, and its actions change no data
  record Makes (keys : List KeyPlace) (o : Transition) : Type 0 where
    unused : key_at keys place ≡ None
    kept : (own : KeyValues) (live : Bool) → value_at place (named_data o.named (cond live (own_data o.own own) own)) ≡ value_at place own

  -- the place of a new key has no key
  is_unused : (keys : List KeyPlace) (k : ℕ) → list_any (nat_eq k) (new_keys keys) ≡ true → nat_eq (key_place k) place ≡ true
      → key_at keys place ≡ None
  is_unused keys k among same =
      let it : IsNumberOf (next_key keys) (λ n. is_none (key_at keys n)) MAX_KEYS k = new_key_of keys k among in
      let its_place : key_place k ≡ it.item = ap key_place it.is ∙ place_of_next it.item (option_map_or (λ (p : KeyPlace). p.made) (slice_get keys it.item) 0) it.low in
      none_is (key_at keys place) (ap (λ (n : ℕ). is_none (key_at keys n)) (sym (eqb-true (key_place k) place same) ∙ its_place) ∙ it.passes)
    where
      none_is : (found : Option Key) → is_none found ≡ true → found ≡ None
      none_is None is = refl
      none_is (Some key) is = absurd (false≢true is)

  case_makes : {passes : ℕ} {body : List Stmt} {shared : SharedState} {t : Thread} {environment : Environment} {next : NextStatement} {s : Status} {o : Transition} → TransitionCase passes body shared t environment true next s o
      → list_any (makes_at place) o.events ≡ true → Makes shared.keys o
  case_makes {shared = shared} (key_made frame result key destructor k among) said =
      record { unused = is_unused shared.keys k (among refl) (sym (or-false _) ∙ said); kept = unchanged }
    where
      unchanged : (own : KeyValues) (live : Bool) → value_at place (cond live own own) ≡ value_at place own
      unchanged own true = refl
      unchanged own false = refl
  case_makes (fork_handler_called next at call is) said =
      absurd (false≢true (of_each_phase (λ (w : What). list_any (makes_at place) (w ∷ []) ≡ true → false ≡ true) call.func (λ is. is) (λ is. is) (λ is. is) at.phase said))
  case_makes _ said = absurd (false≢true said)

  -- the data of a thread that does not act
  named_kept : (a : Option NamedAction) → deletes a ≡ false → (own : KeyValues) → value_at place (named_data a own) ≡ value_at place own
  named_kept (Some (named_action.ForgetKey k)) other own =
      get_or-set_other own.values (key_place k) place 0 0 (λ same. eqb-false (key_place k) place other (sym same))
  named_kept _ other own = refl

  named_gone : (a : Option NamedAction) → deletes a ≡ true → (own : KeyValues) → value_at place (named_data a own) ≡ 0
  named_gone (Some (named_action.ForgetKey k)) is own =
      subst (λ (n : ℕ). value_at n (without_value (key_place k) own) ≡ 0) (eqb-true (key_place k) place is) (default_set own.values (key_place k) 0)
  named_gone _ is own = absurd (false≢true is)

-- ---- each step of a run

module _ (script : Script) (config : Config) where
  module _ (before : List Entry) (r : Run) (is : run script config before ≡ Some r) (e : Entry) (p : Process) (t : Thread) (taken : IsTaken script config r.world e p t) where
    abbrev o : Transition
    o = transition_by script config r.world p t e.alt

    moves : Moves script config r.world p e t
    moves = moves_of_run script config before r is e p t taken

    -- the data of a thread, whether it makes the step or not, after its own action
    abbrev own_of : Bool → Thread → KeyValues
    own_of live u = cond live (own_data o.own u.specific) u.specific

    events_say : (place : ℕ) → list_any (deletes_at place) o.events ≡ deletes place o.named
    events_say place = case_deletes place (case_of_step script config r.world p e t moves)

    -- another one
    is_another : (tid : ℕ) (u : Thread) → thread_with tid p ≡ Some u → tid ≢ e.tid → has_valid_id e.tid u ≡ false
    is_another tid u found differs =
        let named : u.id ≡ tid = eqb-true u.id tid (found_passes (λ (x : Thread). nat_eq x.id tid) p.threads u found) in
        and_left (nat_eq u.id e.tid) (holds_slot u) (ne_eqb u.id e.tid (λ same. differs (sym named ∙ same)))

    moved_keeps : (place tid : ℕ) (u : Thread) → thread_with tid p ≡ Some u
        → KeepsThread (step_of script config r p e t) place tid (thread_moved e.tid o u)
    moved_keeps place tid u found = record {
      other = λ differs was was_found quiet.
          ap (value_at place) (data_moved e.tid o u ∙ ap (λ (live : Bool). named_data o.named (own_of live u)) (is_another tid u found differs))
          ∙ named_kept place o.named (sym (events_say place) ∙ quiet) u.specific
          ∙ ap (λ (x : Thread). value_at place x.specific) (same_Some u was (sym found ∙ was_found));
      deleted = λ gone. ap (value_at place) (data_moved e.tid o u) ∙ named_gone place o.named (sym (events_say place) ∙ gone) (own_of (has_valid_id e.tid u) u);
      made = λ said.
          let makes : Makes place p.shared.keys o = case_makes place (case_of_step script config r.world p e t moves) said in
          ap (value_at place) (data_moved e.tid o u) ∙ makes.kept u.specific (has_valid_id e.tid u)
          ∙ ((keys_of_run script config before r is e.pid p (process_taken script config before r is e p t taken)).empty tid u found place makes.unused).0;
      new = λ none. absurd (none-some u (sym none ∙ found));
    }

    keeps_by : (place tid : ℕ) (u : Thread) {found : Option Thread} → After script config r.world p e t moves tid found → found ≡ Some u
        → KeepsThread (step_of script config r p e t) place tid u
    keeps_by place tid u (was_made x found none) same =
        subst (KeepsThread (step_of script config r p e t) place tid) (same_Some (thread_moved e.tid o x) u same) (moved_keeps place tid x found)
    keeps_by place tid u (is_new n none makes named) same =
        subst (KeepsThread (step_of script config r p e t) place tid) (same_Some (created_thread n) u same) (record {
          other = λ differs was was_found quiet. absurd (none-some was (sym none ∙ was_found));
          deleted = λ gone. default_of_replicate MAX_KEYS place 0;
          made = λ said. default_of_replicate MAX_KEYS place 0;
          new = λ absent. default_of_replicate MAX_KEYS place 0;
        })
    keeps_by place tid u (is_absent none nothing) same = absurd (none-some u same)

    threads_of_step : KeepsThreads (step_of script config r p e t)
    threads_of_step place tid u made = keeps_by place tid u (after script config r.world p e t moves tid) made

  -- each step keeps the values of the threads of its process
  pub threads_of_run : EveryStep script config KeepsThreads
  threads_of_run = every_step script config KeepsThreads threads_of_step
