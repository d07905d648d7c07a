-- The law of pthread_once: the init routine of a control is called only where the control is fresh: no call of the routine is in progress,
-- and none has returned; it returns in the thread that called it; and a call of pthread_once that does not call the routine returns only
-- after one return of it (XSH pthread_once). As its thread begins to end, a control is fresh again, by a request (XSH pthread_once) or by
-- pthread_exit, which is a choice of this host. A child has the controls of its parent at the fork.
--
-- That the routine is called is said by the law of frames, that its return has the event by the law of statements, and what becomes of the
-- controls in the state by the law of what threads share.
use Rattle.std.specs.Prelude.{◌≡◌, ℕ, Bool, true, false, not, ◌||◌, List, nat_eq, Option, Some, None}
use Rattle.std.specs.Option.{option_map_or}
use Rattle.pct_model.specs.declared.event.Event.{Event}
use Rattle.pct_model.specs.declared.event.What.{What}
use Rattle.pct_model.specs.declared.event.What.TheVariants as what
use Rattle.pct_model.specs.declared.schedule.Config.{Config}
use Rattle.pct_model.specs.declared.schedule.Entry.{Entry}
use Rattle.pct_model.specs.declared.script.Script.{Script}
use Rattle.pct_model.specs.declared.state.OnceState.{OnceState}
use Rattle.pct_model.specs.declared.state.OnceState.TheVariants.{Fresh, Busy}
use Rattle.pct_model.specs.declared.statement.Stmt.TheVariants as statement
use Rattle.pct_model.specs.LineParsing.{is_empty}
use Rattle.pct_model.specs.NextStatement.{NextStatement, StatementIn, next_of}
use Rattle.pct_laws.specs.CancelLaw.{is_running}
use Rattle.pct_laws.specs.Each.{each}
use Rattle.pct_laws.specs.OnceControls.{once_of, routine_returns}
use Rattle.pct_laws.specs.ThreadSteps.{ThreadStep, EachStep}

-- ---- of events

-- no call of the routine of a control in this state is in progress, and none has returned
abbrev pub may_call : OnceState → Bool
may_call Fresh = true
may_call _ = false

-- thread tid called the routine of a control in this state, and the routine has not returned
abbrev pub may_return : ℕ → OnceState → Bool
may_return tid (Busy id) = nat_eq id tid
may_return tid _ = false

-- what the law asks of the states of the controls before an event of thread tid
abbrev pub may_come : What → ℕ → (ℕ → OnceState) → Bool
may_come (what.OnceCalled o) tid state = may_call (state o)
may_come (what.OnceDone o) tid state = may_return tid (state o)
may_come _ tid state = true

-- an event may come after those before it
abbrev pub allows : Event → List Event → Bool
allows e earlier = may_come e.what e.tid (λ o. once_of e.pid o earlier)

-- ---- of steps

-- the control of the pthread_once that is the next statement, if it is one
abbrev pub next_control : NextStatement → Option ℕ
next_control (StatementIn frame (statement.CallOnce o f)) = Some o
next_control _ = None

-- a running thread that goes on from pthread_once without an event, and so without a call of the routine, does so after one return of it
abbrev pub returns_after_routine : Script → ThreadStep → Bool
returns_after_routine script s =
    not (is_running s.before.status) || not (is_empty s.events)
    || option_map_or (λ o. nat_eq (routine_returns s.pid o s.earlier) 1) (next_control (next_of script s.before.frames)) true

-- ---- the law

-- the law of pthread_once, of the run of a schedule and its events
pub record OnceLaw (script : Script) (config : Config) (entries : List Entry) (events : List Event) : Type 0 where
  pub called : each allows events ≡ true
  pub returned : EachStep script config entries (λ s. returns_after_routine script s ≡ true)
