-- The numbers in a state have 32 bits, and a transition whose numbers have keeps that.
use Rattle.pct_names.proofs.Names.{◌&&◌, [], after_transition, All, All-append, All-cons, All-map, All-nil, All-replicate, All-set, as_reaped, at_pc, Bool, changed, child_by, child_of, cond, Dest}
use Rattle.pct_names.proofs.Names.{false, first_process, flat_map, Frame, frames_written, has_valid_id, inherited, is_live_process, is_waiting_on, key_place, List, map, moved, named_after, NamedAction, nat_eq, None, none-some}
use Rattle.pct_names.proofs.Names.{not, opening, Option, orphaned, other_process_after, own_after, OwnAction, Process, process_after, process_made, process_moved, ProcessAction, ProcessEnd, refl, replicate, same_Some}
use Rattle.pct_names.proofs.Names.{Script, shared_after, SharedState, slice_set, Some, Status, subst, Thread, thread_at, thread_created, thread_moved, threads_moved, Transition, true, unblocked, without_first, World, in_child, written, ℕ, ◌∷◌, ◌≡◌}
use Rattle.pct_model.specs.Actions.{globals_written}
use Rattle.pct_model.specs.declared.state.Cause.{Cause}
use Rattle.pct_model.specs.declared.state.Status.TheVariants as status
use Rattle.pct_model.specs.declared.statement.Dest.TheVariants as destination
use Rattle.pct_model.specs.declared.transition.NamedAction.TheVariants as named_action
use Rattle.pct_model.specs.declared.transition.NewThread.{NewThread}
use Rattle.pct_model.specs.declared.transition.OwnAction.TheVariants as own_action
use Rattle.pct_model.specs.declared.transition.ProcessAction.TheVariants as process_action
use Rattle.pct_model.specs.declared.transition.SharedAction.{SharedAction}
use Rattle.pct_model.specs.declared.transition.SharedAction.TheVariants as shared_action
use Rattle.pct_engine_laws.proofs.ListFacts.{All-flat_map}
use Rattle.pct_event_bounds.specs.EventNumbers.{Fits}
use Rattle.pct_event_bounds.proofs.FittingTransitions.{zero_fits, CreatedFits, EndFits, FramesFit, HandlersFit, OwnFits, SharedFits, StatusFits, ThreadFits, TransitionFits, WritesFit}

-- ---- frames and globals

written_fits : (writes : List (Dest × ℕ)) (frames : List Frame) → WritesFit writes → FramesFit frames → FramesFit (written frames_written writes frames)
written_fits [] frames numbers have = have
written_fits ((destination.Local i, v) ∷ writes) [] numbers have = written_fits writes [] numbers.1 have
written_fits ((destination.Local i, v) ∷ writes) (frame ∷ below) numbers have =
    written_fits writes (record frame { locals = slice_set frame.locals i v } ∷ below) numbers.1 (All-set Fits frame.locals i v numbers.0 have.0, have.1)
written_fits ((_, v) ∷ writes) frames numbers have = written_fits writes frames numbers.1 have

globals_fit : (writes : List (Dest × ℕ)) (globals : List ℕ) → WritesFit writes → All Fits globals → All Fits (written globals_written writes globals)
globals_fit [] globals numbers have = have
globals_fit ((destination.Global i, v) ∷ writes) globals numbers have = globals_fit writes (slice_set globals i v) numbers.1 (All-set Fits globals i v numbers.0 have)
globals_fit ((_, v) ∷ writes) globals numbers have = globals_fit writes globals numbers.1 have

at_fits : (pc : ℕ) (frames : List Frame) → FramesFit frames → FramesFit (at_pc pc frames)
at_fits pc [] have = tt
at_fits pc (frame ∷ below) have = have

rest_fits : (frames : List Frame) → FramesFit frames → FramesFit (without_first frames)
rest_fits [] have = tt
rest_fits (frame ∷ below) have = have.1

later_fit : (handlers : List (ℕ × ℕ)) → HandlersFit handlers → HandlersFit (without_first handlers)
later_fit [] have = tt
later_fit (handler ∷ handlers) have = have.1

new_fits : (a : ℕ) → Fits a → All Fits (a ∷ replicate 7 0)
new_fits a fit = All-cons Fits a (replicate 7 0) fit (All-replicate Fits 7 0 zero_fits)

-- ---- threads

start_fits : (next : Option ℕ) (t : Thread) → ThreadFits t → ThreadFits (thread_at next t)
unfolding thread_at
start_fits None t fit = fit
start_fits (Some pc) t fit = record { status = tt; frames = at_fits pc t.frames fit.frames; handlers = fit.handlers; reason = fit.reason; values = fit.values; kept = fit.kept }

own_fits : (a : Option OwnAction) (t : Thread) → OwnFits a → ThreadFits t → ThreadFits (own_after a t)
unfolding own_after
own_fits None t number fit = fit
own_fits (Some (own_action.Call f a kind)) t number fit =
    record { status = tt; frames = (new_fits a number, fit.frames); handlers = fit.handlers; reason = fit.reason; values = fit.values; kept = fit.kept }
own_fits (Some (own_action.CallHandler f a)) t number fit =
    record { status = tt; frames = (new_fits a number, fit.frames); handlers = later_fit t.handlers fit.handlers; reason = fit.reason; values = fit.values; kept = fit.kept }
own_fits (Some (own_action.RunHandler f a)) t number fit =
    record { status = tt; frames = (new_fits a number, tt); handlers = later_fit t.handlers fit.handlers; reason = fit.reason; values = fit.values; kept = fit.kept }
own_fits (Some (own_action.RunDestructor k f v)) t number fit =
    record { status = tt; frames = (new_fits v number, tt); handlers = fit.handlers; reason = fit.reason; values = All-set Fits t.specific.values (key_place k) 0 zero_fits fit.values; kept = fit.kept }
own_fits (Some (own_action.RunExitFunction f)) t number fit =
    record { status = tt; frames = (new_fits 0 zero_fits, tt); handlers = fit.handlers; reason = fit.reason; values = fit.values; kept = fit.kept }
own_fits (Some (own_action.CallForkHandler at f)) t number fit =
    record { status = tt; frames = (new_fits 0 zero_fits, fit.frames); handlers = fit.handlers; reason = fit.reason; values = fit.values; kept = number }
own_fits (Some (own_action.Leave s)) t number fit = record { status = number; frames = rest_fits t.frames fit.frames; handlers = fit.handlers; reason = fit.reason; values = fit.values; kept = tt }
own_fits (Some (own_action.SetStatus s)) t number fit = record { status = number; frames = fit.frames; handlers = fit.handlers; reason = fit.reason; values = fit.values; kept = fit.kept }
own_fits (Some (own_action.PushHandler f a)) t number fit = record { status = fit.status; frames = fit.frames; handlers = (number, fit.handlers); reason = fit.reason; values = fit.values; kept = fit.kept }
own_fits (Some own_action.PopHandler) t number fit = record { status = fit.status; frames = fit.frames; handlers = later_fit t.handlers fit.handlers; reason = fit.reason; values = fit.values; kept = fit.kept }
own_fits (Some (own_action.SetState state)) t number fit = record { status = fit.status; frames = fit.frames; handlers = fit.handlers; reason = fit.reason; values = fit.values; kept = fit.kept }
own_fits (Some (own_action.SetMode mode)) t number fit = record { status = fit.status; frames = fit.frames; handlers = fit.handlers; reason = fit.reason; values = fit.values; kept = fit.kept }
own_fits (Some (own_action.SetSpecific k v)) t number fit =
    record { status = fit.status; frames = fit.frames; handlers = fit.handlers; reason = fit.reason; values = All-set Fits t.specific.values (key_place k) v number fit.values; kept = fit.kept }
own_fits (Some own_action.BeginPass) t number fit = record { status = fit.status; frames = fit.frames; handlers = fit.handlers; reason = fit.reason; values = fit.values; kept = fit.kept }
own_fits (Some (own_action.BeginEnd why)) t number fit = record { status = tt; frames = tt; handlers = fit.handlers; reason = number; values = fit.values; kept = tt }
own_fits (Some (own_action.EndThread v)) t number fit = record { status = number; frames = fit.frames; handlers = fit.handlers; reason = fit.reason; values = fit.values; kept = fit.kept }
own_fits (Some own_action.BeginExit) t number fit = record { status = tt; frames = tt; handlers = fit.handlers; reason = fit.reason; values = fit.values; kept = tt }
own_fits (Some own_action.EndLast) t number fit = record { status = tt; frames = tt; handlers = fit.handlers; reason = fit.reason; values = fit.values; kept = tt }

if_fits : (b : Bool) (x y : Thread) → ThreadFits x → ThreadFits y → ThreadFits (cond b x y)
if_fits true x y first second = first
if_fits false x y first second = second

unblocked_fits : (why : Cause) (s : Status) → StatusFits s → StatusFits (unblocked why s)
unblocked_fits why (status.Waiting c m) fit = tt
unblocked_fits why _ fit = fit

named_fits : (a : Option NamedAction) (t : Thread) → ThreadFits t → ThreadFits (named_after a t)
unfolding named_after
named_fits None t fit = fit
named_fits (Some (named_action.EndJoin id)) t fit = if_fits (has_valid_id id t) (record t { joined = true }) t (record { status = fit.status; frames = fit.frames; handlers = fit.handlers; reason = fit.reason; values = fit.values; kept = fit.kept }) fit
named_fits (Some (named_action.Request id)) t fit =
    if_fits (has_valid_id id t && not t.ended) (record t { pending = true }) t (record { status = fit.status; frames = fit.frames; handlers = fit.handlers; reason = fit.reason; values = fit.values; kept = fit.kept }) fit
named_fits (Some (named_action.Detach id)) t fit = if_fits (has_valid_id id t) (record t { detached = true }) t (record { status = fit.status; frames = fit.frames; handlers = fit.handlers; reason = fit.reason; values = fit.values; kept = fit.kept }) fit
named_fits (Some (named_action.Wake id)) t fit =
    if_fits (has_valid_id id t) (record t { status = unblocked _ t.status }) t (record { status = unblocked_fits _ t.status fit.status; frames = fit.frames; handlers = fit.handlers; reason = fit.reason; values = fit.values; kept = fit.kept }) fit
named_fits (Some (named_action.WakeAll c)) t fit =
    if_fits (is_waiting_on c t.status) (record t { status = unblocked _ t.status }) t (record { status = unblocked_fits _ t.status fit.status; frames = fit.frames; handlers = fit.handlers; reason = fit.reason; values = fit.values; kept = fit.kept }) fit
named_fits (Some (named_action.ForgetKey k)) t fit =
    record { status = fit.status; frames = fit.frames; handlers = fit.handlers; reason = fit.reason; values = All-set Fits t.specific.values (key_place k) 0 zero_fits fit.values; kept = fit.kept }

heir_fits : (tid : ℕ) (t : Thread) → ThreadFits t → ThreadFits (inherited tid t)
unfolding inherited
heir_fits tid t fit =
    if_fits (has_valid_id tid t) _ _
    (record { status = in_child_fits t.status fit.status; frames = fit.frames; handlers = fit.handlers; reason = tt; values = fit.values; kept = tt })
    (record { status = fit.status; frames = fit.frames; handlers = fit.handlers; reason = fit.reason; values = fit.values; kept = fit.kept })
  where
    in_child_fits : (s : Status) → StatusFits s → StatusFits (in_child s)
    in_child_fits (status.Forking at) fit = zero_fits
    in_child_fits _ fit = fit

-- ---- processes

pub record ProcessFits (p : Process) : Type 0 where
  pub globals : All Fits p.shared.globals
  pub exits : (v : ℕ) → p.shared.exit_value ≡ Some v → Fits v
  pub ended : (end : ProcessEnd) → p.ended ≡ Some end → Fits end.status
  pub threads : All ThreadFits p.threads

module _ (tid : ℕ) (o : Transition) (fit : TransitionFits o) where
  moved_fits : (t : Thread) → ThreadFits t → ThreadFits (thread_moved tid o t)
  moved_fits t thread =
      let begun : ThreadFits (thread_at o.next t) = start_fits o.next t thread in
      named_fits o.named _ (if_fits (has_valid_id tid t) (moved o t) t
      (own_fits o.own _ fit.own (record { status = begun.status; frames = written_fits o.writes (thread_at o.next t).frames fit.writes begun.frames; handlers = begun.handlers; reason = begun.reason; values = begun.values; kept = begun.kept })) thread)

  created_fits : (new : Option NewThread) → CreatedFits new → All ThreadFits (thread_created new)
  created_fits None number = All-nil ThreadFits
  created_fits (Some new) number =
      All-cons ThreadFits _ [] (record { status = tt; frames = (new_fits new.arg number, tt); handlers = tt; reason = tt; values = All-replicate Fits 128 0 zero_fits; kept = tt }) (All-nil ThreadFits)

  threads_fit : (threads : List Thread) → All ThreadFits threads → All ThreadFits (threads_moved tid o threads)
  threads_fit threads all =
      All-append ThreadFits (map (thread_moved tid o) threads) (thread_created o.created) (All-map ThreadFits (thread_moved tid o) threads (λ k d low. moved_fits _ (all k d low))) (created_fits o.created fit.created)

  shared_fits : (a : Option SharedAction) (s : SharedState) → SharedFits a → All Fits s.globals → ((v : ℕ) → s.exit_value ≡ Some v → Fits v)
      → All Fits (shared_after a s).globals × ((v : ℕ) → (shared_after a s).exit_value ≡ Some v → Fits v)
  unfolding shared_after
  shared_fits (Some (shared_action.BeginExit n)) s number globals exits = (globals, λ v is. subst Fits (same_Some n v is) number)
  shared_fits _ s number globals exits = (globals, exits)

  ended_fits : (a : Option ProcessAction) (p : Process) → EndFits a → ProcessFits p → ProcessFits (process_after a p)
  unfolding process_after
  ended_fits (Some (process_action.End n)) p number process =
      record { globals = process.globals; exits = process.exits; ended = λ end is. subst (λ (e : ProcessEnd). Fits e.status) (same_Some _ end is) number; threads = process.threads }
  ended_fits _ p number process = process

  changed_fits : (p : Process) → ProcessFits p → ProcessFits (changed tid o p)
  changed_fits p process =
      let shared = shared_fits o.shared _ fit.shared (globals_fit o.writes p.shared.globals fit.writes process.globals) process.exits in
      ended_fits o.process _ fit.ended (record { globals = shared.0; exits = shared.1; ended = process.ended; threads = threads_fit p.threads process.threads })

-- another process
other_fits : (pid : ℕ) (a : Option ProcessAction) (p : Process) → ProcessFits p → ProcessFits (other_process_after pid a p)
unfolding other_process_after
other_fits pid (Some (process_action.Reap child)) p fit =
    either_process (nat_eq p.pid child) _ _ (record { globals = fit.globals; exits = fit.exits; ended = reaped_fits p.ended fit.ended; threads = fit.threads }) fit
  where
    either_process : (b : Bool) (x y : Process) → ProcessFits x → ProcessFits y → ProcessFits (cond b x y)
    either_process true x y first second = first
    either_process false x y first second = second

    reaped_fits : (found : Option ProcessEnd) → ((end : ProcessEnd) → found ≡ Some end → Fits end.status) → (end : ProcessEnd) → as_reaped found ≡ Some end → Fits end.status
    reaped_fits None all end is = absurd (none-some end is)
    reaped_fits (Some last) all end is = subst (λ (e : ProcessEnd). Fits e.status) (same_Some _ end is) (all last refl)
other_fits pid (Some (process_action.End n)) p fit = either_process (nat_eq p.parent pid) _ _ (orphan_fits p.ended refl) fit
  where
    either_process : (b : Bool) (x y : Process) → ProcessFits x → ProcessFits y → ProcessFits (cond b x y)
    either_process true x y first second = first
    either_process false x y first second = second

    orphan_fits : (found : Option ProcessEnd) → p.ended ≡ found → ProcessFits (orphaned found p)
    orphan_fits None is = record { globals = fit.globals; exits = fit.exits; ended = fit.ended; threads = fit.threads }
    orphan_fits (Some last) is = record { globals = fit.globals; exits = fit.exits; ended = λ end it. subst (λ (e : ProcessEnd). Fits e.status) (same_Some _ end it) (fit.ended last is); threads = fit.threads }
other_fits pid _ p fit = fit

-- the process that a fork makes
child_fits : (tid pid : ℕ) (p : Process) → ProcessFits p → ProcessFits (child_of tid pid p)
unfolding child_of
child_fits tid pid p fit = record {
  globals = fit.globals;
  exits = λ v is. absurd (none-some v is);
  ended = λ end is. absurd (none-some end is);
  threads = All-map ThreadFits (inherited tid) p.threads (λ k d low. heir_fits tid _ (fit.threads k d low));
}

-- ---- states

module _ (pid tid : ℕ) (o : Transition) (fit : TransitionFits o) where
  process_fits : (p : Process) → ProcessFits p → ProcessFits (process_moved pid tid o p)
  process_fits p process = by_live (is_live_process pid p)
    where
      by_live : (live : Bool) → ProcessFits (cond live (changed tid o p) (other_process_after pid o.process p))
      by_live true = changed_fits tid o fit p process
      by_live false = other_fits pid o.process p process

  made_fit : (p : Process) → ProcessFits p → All ProcessFits (process_made pid tid o p)
  unfolding child_by
  made_fit p process = by_live (is_live_process pid p) o.process
    where
      by_live : (live : Bool) (a : Option ProcessAction) → All ProcessFits (cond live (child_by tid (changed tid o p) a) [])
      by_live true (Some (process_action.Make new)) = All-cons ProcessFits _ [] (child_fits tid new (changed tid o p) (changed_fits tid o fit p process)) (All-nil ProcessFits)
      by_live true _ = All-nil ProcessFits
      by_live false a = All-nil ProcessFits

  pub world_fits : (w : World) → All ProcessFits w.processes → All ProcessFits (after_transition pid tid o w).processes
  unfolding after_transition
  world_fits w all =
      All-append ProcessFits (map (process_moved pid tid o) w.processes) (flat_map (process_made pid tid o) w.processes)
      (All-map ProcessFits (process_moved pid tid o) w.processes (λ k d low. process_fits _ (all k d low)))
      (All-flat_map ProcessFits (process_made pid tid o) w.processes (λ k d low. made_fit _ (all k d low)))

-- the first state
pub first_fits : (script : Script) → All ProcessFits (opening script).processes
unfolding opening
first_fits script =
    All-cons ProcessFits (first_process script) [] (record {
      globals = All-replicate Fits _ 0 zero_fits;
      exits = λ v is. absurd (none-some v is);
      ended = λ end is. absurd (none-some end is);
      threads = All-cons ThreadFits _ [] (record { status = tt; frames = (new_fits 0 zero_fits, tt); handlers = tt; reason = tt; values = All-replicate Fits 128 0 zero_fits; kept = tt }) (All-nil ThreadFits);
    }) (All-nil ProcessFits)
