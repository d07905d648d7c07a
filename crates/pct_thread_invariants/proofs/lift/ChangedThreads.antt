-- What no transition changes: the numbers of processes and threads, and which threads a process did not inherit. And what no action of
-- another thread changes: the status of a thread, unless it waits on a condition variable.
use Rattle.pct_names.proofs.Names.{◌&&◌, ap, as_reaped, at_pc, Bool, Cause, changed, cond, false, Frame, has_valid_id, is_live_process}
use Rattle.pct_names.proofs.Names.{is_waiting_on, key_place, KeyValues, List, map, moved, named_after, NamedAction, nat_eq, None, not}
use Rattle.pct_names.proofs.Names.{Option, orphaned, other_process_after, own_after, OwnAction, Process, process_after, process_moved}
use Rattle.pct_names.proofs.Names.{ProcessAction, ProcessEnd, Reacquire, refl, Running, shared_moved, SharedState, Some, Status, sym}
use Rattle.pct_names.proofs.Names.{Thread, thread_at, thread_moved, threads_moved, Transition, true, unblocked, Waiting, without_value, ℕ}
use Rattle.pct_names.proofs.Names.{◌∙◌, ◌≡◌}
use Rattle.pct_model.specs.declared.state.Cause.TheVariants as cause
use Rattle.pct_model.specs.declared.transition.NamedAction.TheVariants as named_action
use Rattle.pct_model.specs.declared.transition.OwnAction.TheVariants as own_action
use Rattle.pct_model.specs.declared.transition.ProcessAction.TheVariants as process_action

-- ---- any change

-- one of two values that each have the view of a third
pub either_keeps : {T V : Type 0} (view : T → V) (b : Bool) (x y t : T) → view x ≡ view t → view y ≡ view t → view (cond b x y) ≡ view t
either_keeps view true x y t first second = first
either_keeps view false x y t first second = second

-- ---- threads

-- a status; of a thread that is to own its mutex again, that of its wait before it was unblocked
abbrev pub settled : Status → Status
settled (Reacquire c m why) = Waiting c m
settled s = s

settled_unblocked : (why : Cause) (s : Status) → settled (unblocked why s) ≡ settled s
settled_unblocked why (Waiting c m) = refl
settled_unblocked why _ = refl

settled_view : {V : Type 0} (view : Status → V) → ((c m : ℕ) (why : Cause) → view (Reacquire c m why) ≡ view (Waiting c m)) → (s : Status) → view s ≡ view (settled s)
settled_view view same (Reacquire c m why) = same c m why
settled_view view same _ = refl

-- a view that is the same of a thread in its wait and once it is unblocked, is the same of two statuses that settle to one
pub same_settled : {V : Type 0} (view : Status → V) → ((c m : ℕ) (why : Cause) → view (Reacquire c m why) ≡ view (Waiting c m)) → (s before : Status) → settled s ≡ settled before → view s ≡ view before
same_settled view same s before is = settled_view view same s ∙ ap view is ∙ sym (settled_view view same before)

-- a view of a thread that does not see what an action may change of a thread that it names, or unblocks
pub named_keeps : {V : Type 0} (view : Thread → V) → ((t : Thread) (joined pending detached : Bool) (specific : KeyValues) (s : Status) → settled s ≡ settled t.status → view (record t { joined = joined; pending = pending; detached = detached; specific = specific; status = s }) ≡ view t) → (a : Option NamedAction) (t : Thread) → view (named_after a t) ≡ view t
unfolding named_after
named_keeps view same (Some (named_action.EndJoin id)) t = either_keeps view (has_valid_id id t) (record t { joined = true }) t t (same t true t.pending t.detached t.specific t.status refl) refl
named_keeps view same (Some (named_action.Request id)) t = either_keeps view (has_valid_id id t && not t.ended) (record t { pending = true }) t t (same t t.joined true t.detached t.specific t.status refl) refl
named_keeps view same (Some (named_action.Detach id)) t = either_keeps view (has_valid_id id t) (record t { detached = true }) t t (same t t.joined t.pending true t.specific t.status refl) refl
named_keeps view same (Some (named_action.Wake id)) t = let s : Status = unblocked cause.Signalled t.status in either_keeps view (has_valid_id id t) (record t { status = s }) t t (same t t.joined t.pending t.detached t.specific s (settled_unblocked cause.Signalled t.status)) refl
named_keeps view same (Some (named_action.WakeAll c)) t = let s : Status = unblocked cause.Broadcast t.status in either_keeps view (is_waiting_on c t.status) (record t { status = s }) t t (same t t.joined t.pending t.detached t.specific s (settled_unblocked cause.Broadcast t.status)) refl
named_keeps view same (Some (named_action.ForgetKey k)) t = same t t.joined t.pending t.detached (without_value (key_place k) t.specific) t.status refl
named_keeps view same None t = refl

-- one that does not see where the thread runs, as it goes on
pub going_on_keeps : {V : Type 0} (view : Thread → V) → ((t : Thread) (s : Status) (frames : List Frame) → view (record t { status = s; frames = frames }) ≡ view t) → (next : Option ℕ) (t : Thread) → view (thread_at next t) ≡ view t
unfolding thread_at
going_on_keeps view same None t = refl
going_on_keeps view same (Some pc) t = same t Running (at_pc pc t.frames)

-- the id of a thread, whether its process did not inherit it, and whether it is joined and detached
abbrev pub flags : Thread → ℕ × Bool × Bool × Bool
flags t = (t.id, t.gone, t.joined, t.detached)

own_flags : (a : Option OwnAction) (t : Thread) → flags (own_after a t) ≡ flags t
unfolding own_after
own_flags (Some own_action.PopHandler) t = refl
own_flags _ t = refl

-- its own transition does not change them
pub moved_flags : (o : Transition) (t : Thread) → flags (moved o t) ≡ flags t
moved_flags o t = own_flags o.own _ ∙ going_on_keeps flags (λ t s frames. refl) o.next t

-- its id, and whether its process did not inherit it
abbrev pub identity : Thread → ℕ × Bool
identity t = (t.id, t.gone)

-- a thread after a transition of the one with an id
pub thread_moved_keeps : (tid : ℕ) (o : Transition) (t : Thread) → identity (thread_moved tid o t) ≡ identity t
thread_moved_keeps tid o t =
    named_keeps identity (λ t j p d k s same. refl) o.named (cond (has_valid_id tid t) (moved o t) t)
    ∙ either_keeps identity (has_valid_id tid t) (moved o t) t t (ap (λ (f : ℕ × Bool × Bool × Bool). (f.0, f.1)) (moved_flags o t)) refl

-- ---- processes

-- the pids of these processes
abbrev pub pids_of : List Process → List ℕ
pids_of processes = map (λ p. p.pid) processes

-- the pid of a process, its threads, and the state that they share
abbrev contents : Process → ℕ × List Thread × SharedState
contents p = (p.pid, p.threads, p.shared)

own_action_keeps : (a : Option ProcessAction) (p : Process) → contents (process_after a p) ≡ contents p
unfolding process_after
own_action_keeps (Some (process_action.End n)) p = refl
own_action_keeps _ p = refl

orphan_keeps : (end : Option ProcessEnd) (p : Process) → contents (orphaned end p) ≡ contents p
orphan_keeps None p = refl
orphan_keeps (Some end) p = refl

other_action_keeps : (pid : ℕ) (a : Option ProcessAction) (p : Process) → contents (other_process_after pid a p) ≡ contents p
unfolding other_process_after
other_action_keeps pid (Some (process_action.Reap child)) p = either_keeps contents (nat_eq p.pid child) (record p { ended = as_reaped p.ended }) p p refl refl
other_action_keeps pid (Some (process_action.End n)) p = either_keeps contents (nat_eq p.parent pid) (orphaned p.ended p) p p (orphan_keeps p.ended p) refl
other_action_keeps pid _ p = refl

changed_keeps : (tid : ℕ) (o : Transition) (p : Process) → contents (changed tid o p) ≡ (p.pid, threads_moved tid o p.threads, shared_moved tid o p.shared)
changed_keeps tid o p = own_action_keeps o.process (record p { threads = threads_moved tid o p.threads; shared = shared_moved tid o p.shared })

-- the threads of the thread's own process
pub changed_threads : (tid : ℕ) (o : Transition) (p : Process) → (changed tid o p).threads ≡ threads_moved tid o p.threads
changed_threads tid o p = ap (λ (c : ℕ × List Thread × SharedState). c.1) (changed_keeps tid o p)

-- the state that they share
pub changed_shared : (tid : ℕ) (o : Transition) (p : Process) → (changed tid o p).shared ≡ shared_moved tid o p.shared
changed_shared tid o p = ap (λ (c : ℕ × List Thread × SharedState). c.2) (changed_keeps tid o p)

-- the threads of another process
pub other_threads : (pid : ℕ) (o : Transition) (p : Process) → (other_process_after pid o.process p).threads ≡ p.threads
other_threads pid o p = ap (λ (c : ℕ × List Thread × SharedState). c.1) (other_action_keeps pid o.process p)

-- the state that they share
pub other_shared : (pid : ℕ) (o : Transition) (p : Process) → (other_process_after pid o.process p).shared ≡ p.shared
other_shared pid o p = ap (λ (c : ℕ × List Thread × SharedState). c.2) (other_action_keeps pid o.process p)

pub process_moved_pid : (pid tid : ℕ) (o : Transition) (p : Process) → (process_moved pid tid o p).pid ≡ p.pid
process_moved_pid pid tid o p =
    either_keeps (λ (q : Process). q.pid) (is_live_process pid p) (changed tid o p) (other_process_after pid o.process p) p
    (ap (λ (c : ℕ × List Thread × SharedState). c.0) (changed_keeps tid o p))
    (ap (λ (c : ℕ × List Thread × SharedState). c.0) (other_action_keeps pid o.process p))
