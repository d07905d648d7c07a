-- What each transition does with the threads that it names, by the tables: at most one action names a thread, which holds its slot,
-- and an event reports it.
use Rattle.pct_names.proofs.Names.{[], acts_on_request, Alt, begins_join, body_at, Bool, choices_of, Config, creates, Dest, detaches}
use Rattle.pct_names.proofs.Names.{ends_join, environment_of, false, false≢true, is_ended_status, is_joined_by_one, List, NamedAction}
use Rattle.pct_names.proofs.Names.{nat_eq, next_of, NextStatement, not, offers, Option, OwnAction, Process, refl, requests, Script}
use Rattle.pct_names.proofs.Names.{SharedState, Some, Status, Stmt, suc, Thread, Transition, transition_by, true, value_of, What, with_id}
use Rattle.pct_names.proofs.Names.{World, ◌||◌, ℕ, ◌≡◌}
use Rattle.pct_model.specs.declared.event.What.TheVariants as what
use Rattle.pct_model.specs.declared.state.Status.TheVariants as status
use Rattle.pct_model.specs.declared.transition.NamedAction.TheVariants as named_action
use Rattle.pct_model.specs.declared.transition.OwnAction.TheVariants as own_action
use Rattle.pct_transition_cases.proofs.CaseOfTransition.{case_of}
use Rattle.pct_transition_cases.proofs.OfferedChoices.{offered_alive, offered_of}
use Rattle.pct_transition_cases.proofs.TransitionCases.{TransitionCase, rests, thread_made, join_begun, join_ended, thread_detached}
use Rattle.pct_transition_cases.proofs.TransitionCases.{request_sent, canceled_in_join}

-- ---- actions and events that name no thread

-- the status is that of a thread in pthread_join
abbrev pub is_in_join : Status → Bool
is_in_join (status.Joining id) = true
is_in_join _ = false

-- the action does not begin a join
abbrev pub begins_none : Option OwnAction → Bool
begins_none (Some (own_action.Leave s)) = not (is_in_join s)
begins_none (Some (own_action.SetStatus s)) = not (is_in_join s)
begins_none _ = true

-- the action joins the thread with an id
abbrev pub names_join : ℕ → Option NamedAction → Bool
names_join id (Some (named_action.EndJoin n)) = nat_eq id n
names_join id _ = false

-- the action detaches the thread with an id
abbrev pub names_detach : ℕ → Option NamedAction → Bool
names_detach id (Some (named_action.Detach n)) = nat_eq id n
names_detach id _ = false

-- the action joins or detaches the thread with an id: the thread may be reclaimed once it has ended
abbrev pub releases : ℕ → Option NamedAction → Bool
releases id a = names_join id a || names_detach id a

-- the event names no thread of its process
abbrev pub names_none : What → Bool
names_none (what.Created id detached) = false
names_none (what.Request id) = false
names_none (what.Detached id) = false
names_none (what.Joined id v) = false
names_none _ = true

-- the transition begins no join, and joins and detaches no thread
pub record IsQuiet (o : Transition) : Type 0 where
  pub own : begins_none o.own ≡ true
  pub named : (id : ℕ) → releases id o.named ≡ false

-- ---- kinds of transitions

-- thread tid, of these threads, may begin to join the one with an id
pub record MayJoin (tid : ℕ) (threads : List Thread) (id : ℕ) : Type 0 where
  pub target : Thread
  pub is_target : with_id id threads ≡ Some target
  pub other : nat_eq id tid ≡ false
  pub joinable : target.detached ≡ false
  pub alone : is_joined_by_one id threads ≡ false

-- a transition of thread tid, which has a status: what it does with the threads that it names
pub data Kind (tid : ℕ) (threads : List Thread) (s : Status) : Transition → Type 0 where
  -- it names none; a thread in pthread_join does nothing then
  quiet : {o : Transition} → IsQuiet o → (is_in_join s ≡ true → o.events ≡ []) → Kind tid threads s o
  -- it creates one
  creates_one : (next : ℕ) (result id : Dest) (new f v : ℕ) (detached : Bool) → s ≡ status.Running → Kind tid threads s (creates next result id new f v detached)
  -- it begins to join one, or joins it
  begins : (id : ℕ) → s ≡ status.Running → MayJoin tid threads id → Kind tid threads s (begins_join id)
  ends : (next : ℕ) (d : Dest) (id v : ℕ) (target : Thread) → s ≡ status.Joining id → with_id id threads ≡ Some target → target.status ≡ status.Ended v → Kind tid threads s (ends_join next d id v)
  -- it detaches one, which no other thread joins
  detaches_one : (next id : ℕ) (target : Thread) → s ≡ status.Running → with_id id threads ≡ Some target → is_joined_by_one id threads ≡ false → Kind tid threads s (detaches next id)
  -- it sends one a request
  requests_one : (next id : ℕ) (target : Thread) → s ≡ status.Running → with_id id threads ≡ Some target → Kind tid threads s (requests next id)
  -- it begins to end in pthread_join
  cancels : (id : ℕ) → s ≡ status.Joining id → Kind tid threads s (acts_on_request 0 (status.Joining id))

-- ---- the table

module _ (config : Config) (w : World) (p : Process) (passes : ℕ) (body : List Stmt) (shared : SharedState) (t : Thread) where
  case_kind : {next : NextStatement} {s : Status} {o : Transition} → TransitionCase passes body shared t (environment_of config w p t.id) false next s o → Kind t.id p.threads s o
  unfolding environment_of creates begins_join ends_join detaches requests acts_on_request
  case_kind (rests next s alive) = quiet (record { own = refl; named = λ id. refl }) (λ joins. refl)
  case_kind (thread_made frame result id f v detached new among) = creates_one (suc frame.pc) result id new f (value_of shared.globals frame v) detached refl
  case_kind (join_begun frame id d target is other joinable alone unasked) = begins (value_of shared.globals frame id) refl (record { target = target; is_target = is; other = other; joinable = joinable; alone = alone })
  case_kind (join_ended frame operand d id v target is ended) = ends (suc frame.pc) d id v target refl is ended
  case_kind (thread_detached frame id target is joinable alone) = detaches_one (suc frame.pc) (value_of shared.globals frame id) target refl is alone
  case_kind (request_sent frame id target is) = requests_one (suc frame.pc) (value_of shared.globals frame id) target refl is
  case_kind (canceled_in_join next id delivered) = cancels id refl
  case_kind _ = quiet (record { own = refl; named = λ id. refl }) (λ joins. absurd (false≢true joins))

-- the case of each transition of a thread of a process
pub its_case : (script : Script) (config : Config) (w : World) (p : Process) (t : Thread) (choice : Alt) → TransitionCase config.passes (body_at script t.frames) p.shared t (environment_of config w p t.id) false (next_of script t.frames) t.status (transition_by script config w p t choice)
its_case script config w p t choice = case_of config.passes (body_at script t.frames) p.shared t (environment_of config w p t.id) false choice (next_of script t.frames) t.status (λ known. absurd (false≢true known))

-- and its kind
pub kind_of : (script : Script) (config : Config) (w : World) (p : Process) (t : Thread) (choice : Alt) → Kind t.id p.threads t.status (transition_by script config w p t choice)
kind_of script config w p t choice = case_kind config w p config.passes (body_at script t.frames) p.shared t (its_case script config w p t choice)

-- ---- a thread that moves

-- a thread that has a choice does not have the status of its end
pub moves_alive : (script : Script) (config : Config) (w : World) (p : Process) (t : Thread) (choice : Alt) → offers (choices_of script config w p t) choice ≡ true → is_ended_status t.status ≡ false
moves_alive script config w p t choice offered = offered_alive (offered_of (body_at script t.frames) p.shared t (environment_of config w p t.id) choice (next_of script t.frames) t.status offered)
