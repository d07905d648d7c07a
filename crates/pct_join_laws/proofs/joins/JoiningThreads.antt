-- Each thread that is suspended in pthread_join joins another thread of its process, which is neither joined nor detached, and it is
-- the only one that joins it.
use Rattle.pct_names.proofs.Names.{◌&&◌, acts_on_request, and_parts, any_passes_from_place, ap, begins_join, Bool, changed, child_of, cond}
use Rattle.pct_names.proofs.Names.{cond_some, Config, creates, detaches, ends_join, Entry, eqb-false, false, false_from_ne_true, false≢true}
use Rattle.pct_names.proofs.Names.{find, first_process, has_valid_id, holds_slot, in_child, inl, inr, is_ended_status, is_joined_by_one}
use Rattle.pct_names.proofs.Names.{is_joining, List, moved, nat_eq, not, Option, option_map, option_or, or_cases, or_left, or_parts}
use Rattle.pct_names.proofs.Names.{position_or_len, Process, refl, requests, same_Some, Script, Some, Status, subst, sym, Thread}
use Rattle.pct_names.proofs.Names.{thread_created, thread_moved, Transition, transition_by, true, World, ◌||◌, ℕ, ◌∙◌, ◌≡◌, ◌≢◌}
use mathlib.Core.Bool.{or-false}
use Rattle.std.proofs.Common.{eqb-true, eq-eqb}
use Rattle.std.proofs.lemmas.Bool.{true≢false}
use Rattle.pct_model.specs.declared.state.Status.TheVariants as status
use Rattle.pct_thread_invariants.proofs.lift.KeyedLists.{found_at, found_passes}
use Rattle.pct_thread_invariants.proofs.lift.TakenSteps.{AfterEveryRun}
use Rattle.pct_thread_invariants.proofs.lift.ChangedThreads.{settled, same_settled, named_keeps, other_threads}
use Rattle.pct_thread_invariants.proofs.lift.MadeThreads.{own_thread_with, HasValidId, with_valid_id}
use Rattle.pct_thread_invariants.proofs.lift.ThreadsAfter.{initial_thread, Moves, mover, is_mover, each_after, same_gone}
use Rattle.pct_thread_invariants.proofs.lift.InheritedThreads.{each_heir}
use Rattle.pct_thread_invariants.proofs.lift.EveryProcess.{OfEveryProcess, IsProcessRule, unread, every_process_keeps, moves_of_run}
use Rattle.pct_thread_invariants.proofs.thread.JoinTransitions.{is_in_join, MayJoin, Kind, ends, detaches_one, kind_of, moves_alive}
use Rattle.pct_thread_invariants.proofs.thread.JoinTransitions.{names_join, releases, names_detach, quiet}
use Rattle.pct_thread_invariants.proofs.thread.NamedThreads.{unnamed, joined_after, detached_after}
use Rattle.pct_join_laws.proofs.joins.ThreadsInJoin.{InJoin, stays, begun, in_join_after}

-- ---- the rule of a process

-- the thread with an id, of these
abbrev with : ℕ → List Thread → Option Thread
with id threads = find (λ (t : Thread). nat_eq t.id id) threads

-- thread tid, of these threads, joins the one with an id
pub record JoinsOne (threads : List Thread) (tid id : ℕ) : Type 0 where
  pub target : Thread
  pub made : with id threads ≡ Some target
  pub here : target.gone ≡ false
  pub other : id ≢ tid
  pub not_joined : target.joined ≡ false
  pub joinable : target.detached ≡ false
  pub alone : (second : ℕ) (u : Thread) → with second threads ≡ Some u → u.gone ≡ false → u.status ≡ status.Joining id → second ≡ tid

-- the threads of a process: which were joined and are joined
pub record HaveJoins (threads : List Thread) : Type 0 where
  -- a thread that was joined has ended
  pub ended : (id : ℕ) (t : Thread) → with id threads ≡ Some t → t.joined ≡ true → is_ended_status t.status ≡ true
  pub joins : (tid : ℕ) (t : Thread) → with tid threads ≡ Some t → t.gone ≡ false → (id : ℕ) → t.status ≡ status.Joining id → JoinsOne threads tid id

-- ---- threads in pthread_join

-- the id of the thread that a thread with this status joins
abbrev joined_id : Status → ℕ
joined_id (status.Joining id) = id
joined_id _ = 0

settled_joins : (id : ℕ) (s : Status) → settled s ≡ status.Joining id → s ≡ status.Joining id
settled_joins id (status.Reacquire c m why) is = absurd (false≢true (ap is_in_join is))
settled_joins id _ is = is

-- a thread that holds its slot, and has ended if it was joined, was not joined
unjoined : (gone ended joined detached : Bool) → (not gone && not (ended && (joined || detached))) ≡ true → (joined ≡ true → ended ≡ true) → joined ≡ false
unjoined gone ended false detached holds has_ended = refl
unjoined true ended true detached holds has_ended = absurd (false≢true holds)
unjoined false true true detached holds has_ended = absurd (false≢true holds)
unjoined false false true detached holds has_ended = absurd (false≢true (has_ended refl))

-- a thread in pthread_join is seen to join its target
is_seen : (threads : List Thread) (tid : ℕ) (t : Thread) (id : ℕ) → with tid threads ≡ Some t → t.gone ≡ false → t.status ≡ status.Joining id → is_joined_by_one id threads ≡ true
is_seen threads tid t id is here joins =
    any_passes_from_place (λ (u : Thread). holds_slot u && is_joining id u.status) threads (position_or_len (λ (u : Thread). nat_eq u.id tid) threads) t (found_at (λ (u : Thread). nat_eq u.id tid) threads t is)
    (ap (λ (gone : Bool). (not gone && not (is_ended_status t.status && (t.joined || t.detached))) && is_joining id t.status) here
    ∙ ap (λ (s : Status). not (is_ended_status s && (t.joined || t.detached)) && is_joining id s) joins ∙ eq-eqb id id refl)

-- ---- a transition

module _ (script : Script) (config : Config) (w : World) (p : Process) (e : Entry) (t : Thread) (moves : Moves script config w p e t) (rule : HaveJoins p.threads) where
  abbrev o : Transition
  o = transition_by script config w p t e.alt

  -- the threads after the transition
  abbrev next : List Thread
  next = (changed e.tid o p).threads

  k : Kind t.id p.threads t.status o
  k = kind_of script config w p t e.alt

  it : HasValidId p e.tid t
  it = mover script config w p e t moves

  status_after : (u : Thread) (live : Bool) → has_valid_id e.tid u ≡ live → settled (thread_moved e.tid o u).status ≡ settled (cond live (moved o u) u).status
  status_after u live is = named_keeps (λ (x : Thread). settled x.status) (λ t j p d k s same. same) o.named (unnamed e.tid o u) ∙ ap (λ (b : Bool). settled (cond b (moved o u) u).status) is

  -- ---- threads in pthread_join

  -- a thread that joins one after the transition joined it before, or begins to; the transition neither joins nor detaches that one
  data Before (second id : ℕ) (u : Thread) : Type 0 where
    still : u.status ≡ status.Joining id → releases id o.named ≡ false → Before second id u
    now : second ≡ e.tid → MayJoin t.id p.threads id → releases id o.named ≡ false → Before second id u

  -- the thread that moves
  mover_before : (id : ℕ) → (moved o t).status ≡ status.Joining id → InJoin k t → Before e.tid id t
  mover_before id joins (stays same none keeps) = still (sym same ∙ joins) (keeps id)
  mover_before id joins (begun n now_joins may is keeps) = now refl (subst (MayJoin t.id p.threads) (ap joined_id (sym now_joins ∙ joins)) may) (keeps id)

  -- another thread joins none that the transition joins or detaches
  not_released : {x : Transition} (j : Kind t.id p.threads t.status x) (second id : ℕ) (u : Thread) → with second p.threads ≡ Some u → u.gone ≡ false → u.status ≡ status.Joining id → has_valid_id e.tid u ≡ false → releases id x.named ≡ true → ⊥
  unfolding creates begins_join ends_join detaches requests acts_on_request
  not_released (ends pc d n v target s is_target ended) second id u is_u present joins other names =
      let same : id ≡ n = eqb-true id n (sym (or-false (nat_eq id n)) ∙ names) in
      let its = rule.joins e.tid t it.found it.here n s in
      let second_is : second ≡ e.tid = its.alone second u is_u present (joins ∙ ap (λ (i : ℕ). status.Joining i) same) in
      let same_thread : u ≡ t = same_Some u t (sym is_u ∙ ap (λ (i : ℕ). with i p.threads) second_is ∙ it.found) in
      false≢true (sym other ∙ ap (has_valid_id e.tid) same_thread ∙ it.valid)
  not_released (detaches_one pc n target s is_target alone) second id u is_u present joins other names =
      let same : id ≡ n = eqb-true id n names in
      false≢true (sym alone ∙ ap (λ (i : ℕ). is_joined_by_one i p.threads) (sym same) ∙ is_seen p.threads second u id is_u present joins)
  not_released (quiet is nothing) second id u is_u present joins other names = false≢true (sym (is.named id) ∙ names)
  not_released j second id u is_u present joins other names = false≢true names

  before_by : (second id : ℕ) (u : Thread) → with second p.threads ≡ Some u → u.gone ≡ false → (live : Bool) → has_valid_id e.tid u ≡ live → (cond live (moved o u) u).status ≡ status.Joining id → Before second id u
  before_by second id u is_u present true live joins =
      let it = is_mover script config w p e t moves second u is_u live in
      let joins_t : (moved o t).status ≡ status.Joining id = ap (λ (x : Thread). (moved o x).status) (sym it.0) ∙ joins in
      subst (λ (x : Thread). Before second id x) (sym it.0) (subst (λ (n : ℕ). Before n id t) (sym it.1) (mover_before id joins_t (in_join_after t k (ap is_in_join joins_t))))
  before_by second id u is_u present false other joins =
      still joins (false_from_ne_true (releases id o.named) (λ names. not_released k second id u is_u present joins other names))

  before : (second id : ℕ) (u : Thread) → with second p.threads ≡ Some u → u.gone ≡ false → (thread_moved e.tid o u).status ≡ status.Joining id → Before second id u
  before second id u is_u present joins = before_by second id u is_u present (has_valid_id e.tid u) refl (settled_joins id (cond (has_valid_id e.tid u) (moved o u) u).status (sym (status_after u (has_valid_id e.tid u) refl) ∙ ap settled joins))

  -- ---- what they join

  -- the one that a thread begins to join
  begins_one : (id : ℕ) → MayJoin t.id p.threads id → JoinsOne p.threads e.tid id
  begins_one id may =
      let live : HasValidId p id may.target = with_valid_id id p may.target moves.ids.distinct may.is_target in
      record {
        target = may.target;
        made = live.found;
        here = live.here;
        other = λ same. eqb-false id t.id may.other (same ∙ sym it.number);
        not_joined = unjoined may.target.gone (is_ended_status may.target.status) may.target.joined may.target.detached live.holds (rule.ended id may.target live.found);
        joinable = may.joinable;
        alone = λ second u is_u present joins. absurd (false≢true (sym may.alone ∙ is_seen p.threads second u id is_u present joins));
      }

  -- what a thread that joins one after the transition joins before it
  one_before : (second id : ℕ) (u : Thread) → with second p.threads ≡ Some u → u.gone ≡ false → Before second id u → JoinsOne p.threads second id
  one_before second id u is_u present (still joins keeps) = rule.joins second u is_u present id joins
  one_before second id u is_u present (now same may keeps) = subst (λ (n : ℕ). JoinsOne p.threads n id) (sym same) (begins_one id may)

  not_released_after : (second id : ℕ) (u : Thread) → Before second id u → releases id o.named ≡ false
  not_released_after second id u (still joins keeps) = keeps
  not_released_after second id u (now same may keeps) = keeps

  -- two threads that join one after the transition are the same
  alone_after : (first second id : ℕ) (u v : Thread) → with first p.threads ≡ Some u → u.gone ≡ false → with second p.threads ≡ Some v → v.gone ≡ false → Before first id u → Before second id v → second ≡ first
  alone_after first second id u v is_u here_u is_v here_v before_u (still joins keeps) = (one_before first id u is_u here_u before_u).alone second v is_v here_v joins
  alone_after first second id u v is_u here_u is_v here_v (still joins keeps) (now same may keeps_v) = absurd (false≢true (sym may.alone ∙ is_seen p.threads first u id is_u here_u joins))
  alone_after first second id u v is_u here_u is_v here_v (now is may keeps) (now same may_v keeps_v) = same ∙ sym is

  moved_one : (second id : ℕ) (u : Thread) → with second p.threads ≡ Some u → u.gone ≡ false → Before second id u → JoinsOne next second id
  moved_one second id u is_u present before_u =
      let one = one_before second id u is_u present before_u in
      let x : Thread = one.target in
      let keeps : (names_join id o.named ≡ false) × (names_detach id o.named ≡ false) = or_parts (names_join id o.named) (names_detach id o.named) (not_released_after second id u before_u) in
      let x_id : x.id ≡ id = eqb-true x.id id (found_passes (λ (y : Thread). nat_eq y.id id) p.threads x one.made) in
      let holds : Bool = holds_slot (unnamed e.tid o x) in
      record {
        target = thread_moved e.tid o x;
        made = own_thread_with p.pid e.tid o p id ∙ ap (λ (before : Option Thread). option_or (option_map (thread_moved e.tid o) before) (find (λ (y : Thread). nat_eq y.id id) (thread_created o.created))) one.made;
        here = same_gone e.tid o x ∙ one.here;
        other = one.other;
        not_joined = joined_after e.tid o x ∙ ap (λ (n : ℕ). (names_join n o.named && holds) || x.joined) x_id ∙ ap (λ (b : Bool). (b && holds) || x.joined) keeps.0 ∙ one.not_joined;
        joinable = detached_after e.tid o x ∙ ap (λ (n : ℕ). (names_detach n o.named && holds) || x.detached) x_id ∙ ap (λ (b : Bool). (b && holds) || x.detached) keeps.1 ∙ one.joinable;
        alone = each_after script config w p e t moves (λ other w. w.gone ≡ false → w.status ≡ status.Joining id → other ≡ second)
            (λ other v is_v present_w joins.
            let here_v : v.gone ≡ false = sym (same_gone e.tid o v) ∙ present_w in
            alone_after second other id u v is_u present is_v here_v before_u (before other id v is_v here_v joins)) (λ other new makes present_w joins. absurd (false≢true (ap is_in_join joins)));
      }

  all_join : (wid : ℕ) (w : Thread) → with wid next ≡ Some w → w.gone ≡ false → (id : ℕ) → w.status ≡ status.Joining id → JoinsOne next wid id
  all_join = each_after script config w p e t moves (λ wid w. w.gone ≡ false → (id : ℕ) → w.status ≡ status.Joining id → JoinsOne next wid id)
      (λ wid u is_u present id joins.
      let here_u : u.gone ≡ false = sym (same_gone e.tid o u) ∙ present in
      moved_one wid id u is_u here_u (before wid id u is_u here_u joins)) (λ wid new makes present id joins. absurd (false≢true (ap is_in_join joins)))

  -- ---- threads that were joined

  -- a thread that has ended does not move
  ended_stays : (id : ℕ) (u : Thread) → with id p.threads ≡ Some u → is_ended_status u.status ≡ true → (live : Bool) → has_valid_id e.tid u ≡ live → is_ended_status (thread_moved e.tid o u).status ≡ true
  ended_stays id u is_u ended true live =
      absurd (false≢true (sym (moves_alive script config w p t e.alt moves.offered) ∙ ap (λ (x : Thread). is_ended_status x.status) (sym (is_mover script config w p e t moves id u is_u live).0) ∙ ended))
  ended_stays id u is_u ended false other = same_settled is_ended_status (λ c m why. refl) (thread_moved e.tid o u).status u.status (status_after u false other) ∙ ended

  -- one that is joined has ended
  target_ended : {x : Transition} (j : Kind t.id p.threads t.status x) (id : ℕ) (u : Thread) → with id p.threads ≡ Some u → names_join u.id x.named ≡ true → is_ended_status u.status ≡ true
  unfolding creates begins_join ends_join detaches requests acts_on_request
  target_ended (ends pc d n v target s is_target ended) id u is_u names =
      let u_id : u.id ≡ id = eqb-true u.id id (found_passes (λ (x : Thread). nat_eq x.id id) p.threads u is_u) in
      let same : u ≡ target = same_Some u target (sym is_u ∙ ap (λ (i : ℕ). with i p.threads) (sym u_id ∙ eqb-true u.id n names) ∙ (with_valid_id n p target moves.ids.distinct is_target).found) in
      ap (λ (x : Thread). is_ended_status x.status) same ∙ ap is_ended_status ended
  target_ended {x} (quiet is nothing) id u is_u names = absurd (false≢true (sym (is.named u.id) ∙ or_left (names_join u.id x.named) (names_detach u.id x.named) names))
  target_ended j id u is_u names = absurd (false≢true names)

  ended_by : (id : ℕ) (u : Thread) → with id p.threads ≡ Some u → (thread_moved e.tid o u).joined ≡ true → is_ended_status (thread_moved e.tid o u).status ≡ true
  ended_by id u is_u joined =
      let holds : Bool = holds_slot (unnamed e.tid o u) in
      let ended : is_ended_status u.status ≡ true = elim (or_cases (names_join u.id o.named && holds) u.joined (sym (joined_after e.tid o u) ∙ joined)) [
        | inl names ↦ target_ended k id u is_u (and_parts (names_join u.id o.named) holds names).0
        | inr before ↦ rule.ended id u is_u before
      ] in
      ended_stays id u is_u ended (has_valid_id e.tid u) refl

  joins_after : HaveJoins next
  joins_after = record {
    ended = each_after script config w p e t moves (λ id w. w.joined ≡ true → is_ended_status w.status ≡ true) ended_by (λ id new makes joined. absurd (false≢true joined));
    joins = all_join;
  }

-- ---- every run

abbrev JoinsKept : Process → Type 0
JoinsKept p = HaveJoins p.threads

joins_rule : (script : Script) (config : Config) → IsProcessRule unread (λ p k. JoinsKept p) script config (Moves script config)
joins_rule script config = record {
  initial =
      let initial : (id : ℕ) (t : Thread) → with id (first_process script).threads ≡ Some t → initial_thread script ≡ t = λ id t is. (cond_some (nat_eq 1 id) (initial_thread script) t is).1 in
      record {
        ended = λ id t is joined. absurd (false≢true (ap (λ (x : Thread). x.joined) (initial id t is) ∙ joined));
        joins = λ tid t is here id joins. absurd (false≢true (ap (λ (x : Thread). is_in_join x.status) (initial tid t is) ∙ ap is_in_join joins));
      };
  own = λ w p e t k moves rule. joins_after script config w p e t moves rule;
  -- the replica is neither joined nor in pthread_join, and each other thread is gone
  born = λ w p e t k new moves fork rule. record {
    ended = each_heir e.tid new p t (mover script config w p e t moves) (λ id x. x.joined ≡ true → is_ended_status x.status ≡ true) (λ joined. absurd (false≢true joined)) rule.ended;
    joins = each_heir e.tid new p t (mover script config w p e t moves) (λ tid x. x.gone ≡ false → (id : ℕ) → x.status ≡ status.Joining id → JoinsOne (child_of e.tid new p).threads tid id)
        (λ here id joins. absurd (false≢true (sym (ap (λ (s : Status). is_in_join (in_child s)) fork.in_fork) ∙ ap is_in_join joins))) (λ tid u is here. absurd (true≢false here));
  };
  other = λ pid o p k rule. subst HaveJoins (sym (other_threads pid o p)) rule;
}

-- after every run, each thread of a process that is suspended in pthread_join joins another one alone
pub joins_of_processes : (script : Script) (config : Config) → AfterEveryRun script config (OfEveryProcess JoinsKept)
joins_of_processes script config = every_process_keeps script config (Moves script config) JoinsKept (joins_rule script config) (moves_of_run script config)
