-- A thread that was made, and that its process inherited, is known, and it is joined or detached exactly if the events report so.
use Rattle.pct_names.proofs.Names.{◌&&◌, [], and_comm, and_right, ap, ap₂, Bool, changed, cond, Config, Entry, Event, event_of, false}
use Rattle.pct_names.proofs.Names.{false_from_ne_true, false≢true, find, holds_slot, List, list_any, made_process, made_thread, map}
use Rattle.pct_names.proofs.Names.{NamedAction, nat_eq, NewThread, None, none-some, not, Option, option_and_then, option_map_or, or_left}
use Rattle.pct_names.proofs.Names.{or_right, Process, refl, replica_of, reverse, Run, run, same_Some, Script, Some, subst, sym, Thread}
use Rattle.pct_names.proofs.Names.{thread_moved, thread_with, Transition, transition_by, true, What, World, ◌||◌, ℕ, ◌∙◌, ◌∷◌, ◌≡◌}
use mathlib.Core.Bool.{and-true, and-false, or-false, or_assoc}
use mathlib.Core.Path.{fun_ext}
use Rattle.std.proofs.Common.{eqb-true}
use Rattle.pct_laws.specs.KnownThreads.{makes_process, is_in, is_fork_of, creates_id, is_known, detaches_id, is_detached, joins_id}
use Rattle.pct_laws.specs.KnownThreads.{is_joined}
use Rattle.pct_thread_invariants.proofs.lift.KeyedLists.{found_passes}
use Rattle.pct_thread_invariants.proofs.lift.TakenSteps.{AfterEveryRun}
use Rattle.pct_thread_invariants.proofs.lift.CreatedThreads.{reports_created}
use Rattle.pct_thread_invariants.proofs.lift.ChangedThreads.{other_threads}
use Rattle.pct_thread_invariants.proofs.lift.ReportedBy.{Reading, reported_by, is_reading, after_own}
use Rattle.pct_thread_invariants.proofs.lift.ThreadsAfter.{initial_thread, created_thread, Moves, mover, After, was_made, is_new, is_absent}
use Rattle.pct_thread_invariants.proofs.lift.ThreadsAfter.{after, same_gone}
use Rattle.pct_thread_invariants.proofs.lift.InheritedThreads.{Heir, is_replica, is_gone, has_none, heir}
use Rattle.pct_thread_invariants.proofs.lift.MadeThreads.{HasValidId}
use Rattle.pct_thread_invariants.proofs.lift.EveryProcess.{FitsReports, IsProcessRule, every_process, moves_of_run}
use Rattle.pct_thread_invariants.proofs.thread.JoinTransitions.{Kind, kind_of, its_case, names_detach, names_join, releases}
use Rattle.pct_thread_invariants.proofs.thread.NamedThreads.{joined_reported, detached_reported, unnamed, joined_after, detached_after}
use Rattle.pct_thread_invariants.proofs.thread.NamedThreads.{IsNamed, is_named}

-- ---- a flag of threads

-- a flag of threads, and its value for a new one; the events that report that it is set, the actions that set it, and whether it is
-- set of the replica of a thread that forks, by what was reported of that thread, and of this one
pub record Flag : Type 0 where
  of : Thread → Bool
  new : NewThread → Bool
  sets : ℕ → Event → Bool
  names : ℕ → Option NamedAction → Bool
  inherits : Bool
  replica : Bool → Bool → Bool
  -- what is reported of the initial thread, or of another one, before any event
  start : Bool → Bool
  none : start false ≡ false
  initial : (script : Script) → start true ≡ of (initial_thread script)
  created : (n : NewThread) → of (created_thread n) ≡ new n
  reports : (script : Script) (config : Config) (w : World) (p : Process) (e : Entry) (t : Thread) → Moves script config w p e t → (id : ℕ) → list_any (λ w. sets id (event_of e w)) (reverse (transition_by script config w p t e.alt).events)
      ≡ (names id (transition_by script config w p t e.alt).named || option_map_or (λ n. nat_eq n.id id && new n) (transition_by script config w p t e.alt).created false)
  changes : (script : Script) (config : Config) (w : World) (p : Process) (e : Entry) (t u : Thread) → of (thread_moved e.tid (transition_by script config w p t e.alt) u) ≡ ((names u.id (transition_by script config w p t e.alt).named && holds_slot (unnamed e.tid (transition_by script config w p t e.alt) u)) || of u)
  named : (id : ℕ) (a : Option NamedAction) → names id a ≡ true → releases id a ≡ true
  of_replica : (t : Thread) → cond inherits (replica (of t) false) false ≡ of (replica_of t)

module _ (flag : Flag) where
  -- what the events report
  abbrev pub reading : ℕ → Reading Bool
  reading id = record { start = λ initial. flag.start (initial && nat_eq 1 id); next = λ e k. flag.sets id e || k; inherits = λ e. flag.inherits && nat_eq e.tid id; born = flag.replica }

  -- after the events of a step
  set_later : (e : Entry) (id : ℕ) (added : List What) (k : Bool) → after_own (reading id) (map (event_of e) added) k ≡ (list_any (λ w. flag.sets id (event_of e w)) added || k)
  set_later e id [] k = refl
  set_later e id (w ∷ added) k =
      ap (λ (rest : Bool). flag.sets id (event_of e w) || rest) (set_later e id added k) ∙ sym (or_assoc (flag.sets id (event_of e w)) (list_any (λ x. flag.sets id (event_of e x)) added) k)

  -- the thread was made, its process inherited it, and the flag is set
  abbrev pub is_set : Option Thread → Bool
  is_set found = option_map_or (λ t. not t.gone && flag.of t) found false

  -- the events report the flags that are set
  abbrev AreReported : Process → (ℕ → Bool) → Type 0
  AreReported p k = (id : ℕ) → k id ≡ is_set (thread_with id p)

  -- a thread that is named holds its slot, and its flag is set then
  named_set : (gone names holds set : Bool) → (names ≡ true → (gone ≡ false) × (holds ≡ true)) → (names || (not gone && set)) ≡ (not gone && ((names && holds) || set))
  named_set gone true holds set is = let parts = is refl in sym (ap (λ (b : Bool). not b && (holds || set)) parts.0 ∙ ap (λ (b : Bool). b || set) parts.1)
  named_set gone false holds set is = refl

  module _ (script : Script) (config : Config) (w : World) (p : Process) (e : Entry) (t : Thread) (k : ℕ → Bool) (moves : Moves script config w p e t) (reported : AreReported p k) where
    abbrev o : Transition
    o = transition_by script config w p t e.alt

    -- the action that names a thread
    abbrev its_kind : Kind t.id p.threads t.status o
    its_kind = kind_of script config w p t e.alt

    abbrev names : ℕ → Bool
    names id = flag.names id o.named

    -- the flag is set of the thread that the transition creates, if that has the id
    abbrev creates : ℕ → Bool
    creates id = option_map_or (λ (n : NewThread). nat_eq n.id id && flag.new n) o.created false

    named_holds : (id : ℕ) → names id ≡ true → IsNamed p e.tid t moves.ids.distinct o id
    named_holds id is = is_named p e.tid t moves.ids.distinct its_kind id (flag.named id o.named is)

    -- what the events of the step report, and those before it
    abbrev later : ℕ → Bool
    later id = list_any (λ w. flag.sets id (event_of e w)) (reverse o.events) || k id

    reports : (id : ℕ) → list_any (λ w. flag.sets id (event_of e w)) (reverse o.events) ≡ (names id || creates id)
    reports = flag.reports script config w p e t moves

    -- of a thread that was not made
    unmade : (id : ℕ) → thread_with id p ≡ None → later id ≡ creates id
    unmade id is =
        let unnamed_is : names id ≡ false = false_from_ne_true (names id) (λ named. let it = named_holds id named in none-some it.target (sym is ∙ it.made)) in
        ap (λ (b : Bool). b || k id) (reports id ∙ ap (λ (b : Bool). b || creates id) unnamed_is) ∙ ap (λ (b : Bool). creates id || b) (reported id ∙ ap is_set is) ∙ or-false (creates id)

    set_by : (id : ℕ) {found : Option Thread} → After script config w p e t moves id found → later id ≡ is_set found
    set_by id (was_made u is none) =
        let set : Bool = flag.of u in
        let holds : Bool = holds_slot (unnamed e.tid o u) in
        let u_id : u.id ≡ id = eqb-true u.id id (found_passes (λ (x : Thread). nat_eq x.id id) p.threads u is) in
        let changed_to : flag.of (thread_moved e.tid o u) ≡ ((names id && holds) || set) = flag.changes script config w p e t u ∙ ap (λ (n : ℕ). (flag.names n o.named && holds) || set) u_id in
        ap (λ (b : Bool). b || k id) (reports id ∙ ap (λ (b : Bool). names id || b) (none flag.new) ∙ or-false (names id)) ∙ ap (λ (b : Bool). names id || b) (reported id ∙ ap is_set is)
        ∙ named_set u.gone (names id) holds set (λ named.
        let it = named_holds id named in
        let same : it.target ≡ u = same_Some it.target u (sym it.made ∙ is) in
        (ap (λ (x : Thread). x.gone) (sym same) ∙ it.here, ap (λ (x : Thread). holds_slot (unnamed e.tid o x)) (sym same) ∙ it.holds))
        ∙ ap (λ (gone : Bool). not gone && ((names id && holds) || set)) (sym (same_gone e.tid o u)) ∙ ap (λ (b : Bool). not (thread_moved e.tid o u).gone && b) (sym changed_to)
    set_by id (is_new n is makes named) =
        unmade id is ∙ ap (λ (new : Option NewThread). option_map_or (λ (x : NewThread). nat_eq x.id id && flag.new x) new false) makes ∙ ap (λ (b : Bool). b && flag.new n) named ∙ sym (flag.created n)
    set_by id (is_absent is none) = unmade id is ∙ none flag.new

    own_reported : AreReported (changed e.tid o p) (λ id. after_own (reading id) (map (event_of e) (reverse o.events)) (k id))
    own_reported id = set_later e id (reverse o.events) (k id) ∙ set_by id (after script config w p e t moves id)

    -- what is reported of a thread of the process that a fork makes, if it is the replica or not
    abbrev reported_at_birth : ℕ → Bool → Bool
    reported_at_birth id same = cond (flag.inherits && same) (flag.replica (k id) (flag.start false)) (flag.start false)

    unreported : (id : ℕ) → reported_at_birth id false ≡ false
    unreported id = ap (λ (b : Bool). cond b (flag.replica (k id) (flag.start false)) (flag.start false)) (and-false flag.inherits) ∙ flag.none

    born_by : (id : ℕ) {found : Option Thread} → Heir p e.tid t id found → reported_at_birth id (nat_eq e.tid id) ≡ is_set found
    born_by id (is_replica named) =
        let it : HasValidId p e.tid t = mover script config w p e t moves in
        let found : thread_with id p ≡ Some t = ap (λ (n : ℕ). thread_with n p) (sym (eqb-true e.tid id named)) ∙ it.found in
        let parent : k id ≡ flag.of t = reported id ∙ ap is_set found ∙ ap (λ (gone : Bool). not gone && flag.of t) it.here in
        ap (reported_at_birth id) named ∙ ap (λ (b : Bool). cond b (flag.replica (k id) (flag.start false)) (flag.start false)) (and-true flag.inherits)
        ∙ ap₂ (λ (parent none : Bool). cond flag.inherits (flag.replica parent none) none) parent flag.none ∙ flag.of_replica t
    born_by id (is_gone u found other) = ap (reported_at_birth id) other ∙ unreported id
    born_by id (has_none other) = ap (reported_at_birth id) other ∙ unreported id

  -- ---- every run

  initial_by : (script : Script) (same : Bool) → flag.start same ≡ is_set (cond same (Some (initial_thread script)) None)
  initial_by script true = flag.initial script
  initial_by script false = flag.none

  flag_rule : (script : Script) (config : Config) → IsProcessRule reading AreReported script config (Moves script config)
  flag_rule script config = record {
    initial = λ id. initial_by script (nat_eq 1 id);
    own = λ w p e t k moves reported. own_reported script config w p e t k moves reported;
    born = λ w p e t k new moves fork reported id. born_by script config w p e t k moves reported id (heir e.tid new p t (mover script config w p e t moves) id);
    other = λ pid o p k reported. subst (λ (threads : List Thread). (id : ℕ) → k id ≡ is_set (find (λ t. nat_eq t.id id) threads)) (sym (other_threads pid o p)) reported;
  }

  set_of : (tid : ℕ) (found : Option Process) (k : ℕ → Bool) → FitsReports reading AreReported found k → k tid ≡ is_set (option_and_then (thread_with tid) found)
  set_of tid None k nothing = nothing tid ∙ flag.none
  set_of tid (Some p) k reported = reported tid

  flag_of_run : (script : Script) (config : Config) → AfterEveryRun script config (λ r. (pid tid : ℕ) → reported_by (reading tid) pid r.events ≡ is_set (made_thread pid tid r.world))
  flag_of_run script config entries r is pid tid =
      set_of tid (made_process pid r.world) (λ id. reported_by (reading id) pid r.events) (every_process reading AreReported script config (Moves script config) (flag_rule script config) (moves_of_run script config) entries r is pid)

-- ---- known threads

abbrev known_flag : Flag
known_flag = record {
  of = λ t. true;
  new = λ n. true;
  sets = λ id e. creates_id id e.what || (makes_process e.pid e.what && nat_eq e.tid id);
  names = λ id a. false;
  inherits = true;
  replica = λ parent k. true;
  start = λ initial. initial;
  none = refl;
  initial = λ script. refl;
  created = λ n. refl;
  reports = λ script config w p e t moves id. reports_created script config w p t e.alt moves.offered e.pid moves.made id (nat_eq e.tid id);
  changes = λ script config w p e t u. refl;
  named = λ id a is. absurd (false≢true is);
  of_replica = λ t. refl;
}

known_event : (own fork own_fork creates k : Bool) → (own ≡ true → fork ≡ own_fork) → ((own && creates) || (fork || k)) ≡ cond own ((creates || own_fork) || k) (cond fork true k)
known_event true fork own_fork creates k is = sym (or_assoc creates fork k) ∙ ap (λ (b : Bool). (creates || b) || k) (is refl)
known_event false true own_fork creates k is = refl
known_event false false own_fork creates k is = refl

known_reading : (tid pid : ℕ) (events : List Event) → is_known pid tid events ≡ reported_by (reading known_flag tid) pid events
known_reading tid = is_reading (reading known_flag tid) (λ pid events. is_known pid tid events) (λ pid. refl) (λ pid e earlier.
    known_event (is_in pid e) (is_fork_of pid tid e) (makes_process e.pid e.what && nat_eq e.tid tid) (creates_id tid e.what) (is_known pid tid earlier)
    (λ own. and_comm (nat_eq e.tid tid) (makes_process pid e.what) ∙ ap (λ n. makes_process n e.what && nat_eq e.tid tid) (sym (eqb-true e.pid pid own))))

-- after every run, the known threads are those that were made and that their processes inherited
pub known_of_run : (script : Script) (config : Config) → AfterEveryRun script config (λ r. (pid tid : ℕ) → is_known pid tid r.events ≡ option_map_or (λ t. not t.gone) (made_thread pid tid r.world) false)
known_of_run script config entries r is pid tid = known_reading tid pid r.events ∙ flag_of_run known_flag script config entries r is pid tid
    ∙ ap (λ (here : Thread → Bool). option_map_or here (made_thread pid tid r.world) false) (fun_ext (λ t. and-true (not t.gone)))

-- ---- joined threads

none_created : (id : ℕ) (created : Option NewThread) → option_map_or (λ n. nat_eq n.id id && false) created false ≡ false
none_created id None = refl
none_created id (Some n) = and_right (nat_eq n.id id) false refl

abbrev joined_flag : Flag
joined_flag = record {
  of = λ t. t.joined;
  new = λ n. false;
  sets = λ id e. joins_id id e.what;
  names = names_join;
  inherits = false;
  replica = λ parent k. k;
  start = λ initial. false;
  none = refl;
  initial = λ script. refl;
  created = λ n. refl;
  reports = λ script config w p e t moves id.
      let o : Transition = transition_by script config w p t e.alt in
      joined_reported id (its_case script config w p t e.alt) ∙ sym (or-false (names_join id o.named)) ∙ ap (λ (b : Bool). names_join id o.named || b) (sym (none_created id o.created));
  changes = λ script config w p e t u. joined_after e.tid (transition_by script config w p t e.alt) u;
  named = λ id a names. or_left (names_join id a) (names_detach id a) names;
  of_replica = λ t. refl;
}

joined_event : (own joins k : Bool) → ((own && joins) || k) ≡ cond own (joins || k) k
joined_event true joins k = refl
joined_event false joins k = refl

joined_reading : (tid pid : ℕ) (events : List Event) → is_joined pid tid events ≡ reported_by (reading joined_flag tid) pid events
joined_reading tid = is_reading (reading joined_flag tid) (λ pid events. is_joined pid tid events) (λ pid. refl) (λ pid e earlier. joined_event (is_in pid e) (joins_id tid e.what) (is_joined pid tid earlier))

-- ---- detached threads

abbrev detached_flag : Flag
detached_flag = record {
  of = λ t. t.detached;
  new = λ n. n.detached;
  sets = λ id e. detaches_id id e.what;
  names = names_detach;
  inherits = true;
  replica = λ parent k. parent || k;
  start = λ initial. false;
  none = refl;
  initial = λ script. refl;
  created = λ n. refl;
  reports = λ script config w p e t moves id. detached_reported id (its_case script config w p t e.alt);
  changes = λ script config w p e t u. detached_after e.tid (transition_by script config w p t e.alt) u;
  named = λ id a names. or_right (names_join id a) (names_detach id a) names;
  of_replica = λ t. or-false t.detached;
}

detached_reading : (tid pid : ℕ) (events : List Event) → is_detached pid tid events ≡ reported_by (reading detached_flag tid) pid events
detached_reading tid = is_reading (reading detached_flag tid) (λ pid events. is_detached pid tid events) (λ pid. refl) (λ pid e earlier. refl)

-- ---- joined and detached threads, after every run

module _ (script : Script) (config : Config) (entries : List Entry) (r : Run) (is : run script config entries ≡ Some r) (pid tid : ℕ) (t : Thread) (made : made_thread pid tid r.world ≡ Some t) (here : t.gone ≡ false) where
  set_if : (flag : Flag) → flag.of t ≡ reported_by (reading flag tid) pid r.events
  set_if flag = sym (flag_of_run flag script config entries r is pid tid ∙ ap (is_set flag) made ∙ ap (λ (gone : Bool). not gone && flag.of t) here)

  -- a thread that was made and is not gone is joined exactly if the events report so
  pub joined_of_run : t.joined ≡ is_joined pid tid r.events
  joined_of_run = set_if joined_flag ∙ sym (joined_reading tid pid r.events)

  -- and detached
  pub detached_of_run : t.detached ≡ is_detached pid tid r.events
  detached_of_run = set_if detached_flag ∙ sym (detached_reading tid pid r.events)
