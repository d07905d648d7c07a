-- The law of the stages of an end: each function that a thread calls as it ends has returned before its next stage; destructors are called
-- when no cleanup handler is left; a pass over the destructors begins with all keys that are due and goes on until none is left in it, and
-- the next one begins only if keys are due; a thread ends only if none is due or all passes were made, and then reports how many are due;
-- and the last thread of a process exits it as it ends; a thread that is ending begins an exit only so (XSH 2.9.5.3, pthread_exit,
-- pthread_key_create). A step changes the value of a key of its own thread only at pthread_setspecific of this key, as its destructor is called, or as it is deleted.
use Rattle.std.specs.Prelude.{◌≡◌, ℕ, suc, Bool, true, false, not, ◌&&◌, ◌||◌, List, length, filter, is_some, slice_get}
use Rattle.std.specs.Prelude.{nat_eq, nat_lt, nat_le}
use Rattle.std.specs.List.{range_with_len, list_any, list_all}
use Rattle.std.specs.Option.{option_map_or}
use Rattle.pct_model.specs.declared.event.Event.{Event}
use Rattle.pct_model.specs.declared.event.What.{What}
use Rattle.pct_model.specs.declared.event.What.TheVariants as what
use Rattle.pct_model.specs.declared.limits.TheConstants.{MAX_KEYS}
use Rattle.pct_model.specs.declared.schedule.Config.{Config}
use Rattle.pct_model.specs.declared.schedule.Entry.{Entry}
use Rattle.pct_model.specs.declared.script.Script.{Script}
use Rattle.pct_model.specs.declared.state.Status.{Status}
use Rattle.pct_model.specs.declared.state.Status.TheVariants as status
use Rattle.pct_model.specs.declared.statement.Stmt.TheVariants as statement
use Rattle.pct_laws.specs.AfterEnd.{begins_exit_with_0}
use Rattle.pct_model.specs.LineParsing.{is_empty}
use Rattle.pct_model.specs.Keys.{KeyPlace, KeyValues, key_place, key_at, value_at}
use Rattle.pct_laws.specs.FollowedEvents.{are_followed}
use Rattle.pct_laws.specs.KnownThreads.{reports_end}
use Rattle.pct_model.specs.NextStatement.{NextStatement, StatementIn, next_of}
use Rattle.pct_laws.specs.CancelLaw.{acts_or_stops, is_running}
use Rattle.pct_laws.specs.ThreadSteps.{ThreadStep, EachStep}
use Rattle.pct_model.specs.World.{Thread, Process, value_of}

-- ---- keys

-- the key on a place has a destructor, and a thread with these data has a value of it that is not NULL (XSH pthread_key_create)
abbrev pub is_due : List KeyPlace → KeyValues → ℕ → Bool
is_due keys own place = option_map_or (λ key. is_some key.destructor) (key_at keys place) false && not (nat_eq (value_at place own) 0)

-- the number of keys that have a destructor and of which the thread has a value that is not NULL
abbrev pub count_due : List KeyPlace → Thread → ℕ
count_due keys t = length (filter (is_due keys t.specific) (range_with_len 0 MAX_KEYS))

-- a place is in the pass of a thread
abbrev pub is_in_pass : ℕ → Thread → Bool
is_in_pass place t = option_map_or (λ in_pass. in_pass) (slice_get t.specific.in_pass place) false

-- no key that is due is left in the pass of the thread
abbrev pub is_pass_over : List KeyPlace → Thread → Bool
is_pass_over keys t = not (list_any (λ place. is_in_pass place t && is_due keys t.specific place) (range_with_len 0 MAX_KEYS))

-- each key that is due in a thread is in the pass of the thread after a step
abbrev pub takes_due : List KeyPlace → Thread → Thread → Bool
takes_due keys before after = list_all (λ place. not (is_due keys before.specific place) || is_in_pass place after) (range_with_len 0 MAX_KEYS)

-- the event is that this many values are left
abbrev pub reports_left : ℕ → What → Bool
reports_left n (what.Leftover m) = nat_eq m n
reports_left n _ = false

-- ---- the law of a step

-- the status is Ending
abbrev pub is_status_ending : Status → Bool
is_status_ending status.Ending = true
is_status_ending _ = false

-- the thread of a step is at the next stage of its end: no function that it called goes on
abbrev pub is_at_stage : ThreadStep → Bool
is_at_stage s = is_status_ending s.before.status && is_empty s.before.frames

-- and it has run its handlers
abbrev pub has_run_handlers : ThreadStep → Bool
has_run_handlers s = is_at_stage s && is_empty s.before.handlers

-- each thread of a process has ended, but for the one with an id and those that the process did not inherit
abbrev pub others_have_ended : ℕ → Process → Bool
others_have_ended id p = list_all (λ t. t.gone || t.ended || nat_eq t.id id) p.threads

-- a pass with a number may begin in a step
abbrev pub pass_may_begin : ℕ → ThreadStep → Bool
pass_may_begin n s =
    has_run_handlers s
    -- the pass before is over, and keys are due
    && is_pass_over s.process.shared.keys s.before && nat_lt 0 (count_due s.process.shared.keys s.before) && nat_eq n (suc s.before.pass)
    -- the keys that are due are left in it
    && takes_due s.process.shared.keys s.before s.after

module _ (passes : ℕ) where
  -- the thread may end in a step
  abbrev pub thread_may_end : ThreadStep → Bool
  thread_may_end s =
      has_run_handlers s
      -- its last pass is over; no key is due, or all passes were made
      && is_pass_over s.process.shared.keys s.before && (nat_eq (count_due s.process.shared.keys s.before) 0 || nat_le passes s.before.pass)
      -- if each other thread of its process has ended, it begins to exit the process with 0
      && (not (others_have_ended s.before.id s.process) || list_any begins_exit_with_0 s.events)
      -- the keys that are due are reported
      && (nat_eq (count_due s.process.shared.keys s.before) 0 || list_any (reports_left (count_due s.process.shared.keys s.before)) s.events)

  -- what a step with an event begins with
  abbrev pub may_begin : What → ThreadStep → Bool
  may_begin (what.HandlerRun f a) s = is_at_stage s
  may_begin (what.PassBegun n) s = pass_may_begin n s
  may_begin (what.DtorRun pass key f v) s = has_run_handlers s && nat_eq pass s.before.pass
  may_begin (what.Leftover n) s = nat_eq n (count_due s.process.shared.keys s.before) && nat_lt 0 n
  may_begin (what.EndedWith v) s = thread_may_end s
  -- a thread that is ending begins an exit only as it ends
  may_begin (what.ExitBegun v) s = not (is_status_ending s.before.status) || list_any reports_end s.events
  -- the law asks nothing at the other events
  may_begin _ s = true

  -- each event of a step may come in it
  abbrev pub each_may_begin : ThreadStep → Bool
  each_may_begin s = list_all (λ w. may_begin w s) s.events

-- ---- the law of values

-- the event changes the value at a place: the destructor of its key is called, or its key is deleted
abbrev pub changes_value : ℕ → What → Bool
changes_value place (what.DtorRun pass key f v) = nat_eq (key_place key) place
changes_value place (what.KeyGone key) = nat_eq (key_place key) place
changes_value place _ = false

-- the event changes whether a place is in the pass: a pass begins, or the event changes its value
abbrev pub changes_pass : ℕ → What → Bool
changes_pass place (what.PassBegun n) = true
changes_pass place w = changes_value place w

-- the next statement is pthread_setspecific of the key on a place, where the globals have these values
abbrev pub sets_value : List ℕ → ℕ → NextStatement → Bool
sets_value globals place (StatementIn frame (statement.SetSpecific key v)) = nat_eq (key_place (value_of globals frame key)) place
sets_value globals place _ = false

-- what a step keeps of the values of its thread, at a place (XSH pthread_setspecific, pthread_key_create, pthread_key_delete)
pub record KeepsValue (script : Script) (place : ℕ) (s : ThreadStep) : Type 0 where
  -- the value at the place stays, but for pthread_setspecific of its key, by a running thread that neither acts upon a request nor stops the
  -- run; the call of its destructor; and its deletion
  pub value : list_any (changes_value place) s.events ≡ false
      → (is_running s.before.status && not (acts_or_stops s.events) && sets_value s.process.shared.globals place (next_of script s.before.frames)) ≡ false
      → value_at place s.after.specific ≡ value_at place s.before.specific
  -- whether it is left in the pass stays, but for the beginning of a pass, the call of its destructor, and its deletion
  pub in_pass : list_any (changes_pass place) s.events ≡ false → slice_get s.after.specific.in_pass place ≡ slice_get s.before.specific.in_pass place

-- so it is at each place
abbrev pub KeepsValues : Script → ThreadStep → Type 0
KeepsValues script s = (place : ℕ) → KeepsValue script place s

-- ---- the law of the events

-- the event is that values are left
abbrev pub is_leftover : What → Bool
is_leftover (what.Leftover n) = true
is_leftover _ = false

-- ---- the law

-- the law of the stages of an end, of the run of a schedule and its events
pub record Ends (script : Script) (config : Config) (entries : List Entry) (events : List Event) : Type 0 where
  pub stages : EachStep script config entries (λ s. each_may_begin config.passes s ≡ true)
  pub values : EachStep script config entries (KeepsValues script)
  -- each event that values are left is directly followed by the end of its thread
  pub left : are_followed is_leftover reports_end events ≡ true
