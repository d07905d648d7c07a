-- The lines of events are read as the events, under the numbers of their names.
use Rattle.pct_names.proofs.Names.{◌≡◌, ℕ, List, [], ◌∷◌, map, Some, All, All-cons, All-head, All-nil, All-tail, Event, Script, What}
use Rattle.pct_names.proofs.Names.{event_line, event_names, refl}
use Rattle.pct_model.specs.declared.event.What.TheVariants as what
use Rattle.pct_model.specs.EventTexts.{EventNames}
use Rattle.pct_name_numbers.specs.EventReading.{event_of, events_of}
use Rattle.pct_event_laws.specs.Renamed.{renamed_event}
use Rattle.pct_event_bounds.specs.EventBounds.{EventNamesItems}
use Rattle.pct_event_bounds.specs.EventNumbers.{EventNumbersFit}
use Rattle.pct_event_bounds.proofs.ScriptNames.{names_of_scripts}
use Rattle.pct_event_lines.proofs.NamesRead.{naming, after, after_all, with_function, with_mutex, with_cond, with_sem, with_once}
use Rattle.pct_event_lines.proofs.Numbers.{keeps-refl, keeps-trans, keeps-with}
use Rattle.pct_event_lines.proofs.EventAgain.{KeepsAll, event_again, thread_again}

pub all-refl : (n : EventNames) → KeepsAll n n
all-refl n = record {
  functions = keeps-refl n.functions;
  mutexes = keeps-refl n.mutexes;
  conds = keeps-refl n.conds;
  sems = keeps-refl n.sems;
  onces = keeps-refl n.onces;
}

all-trans : (a b c : EventNames) → KeepsAll a b → KeepsAll b c → KeepsAll a c
all-trans a b c p q = record {
  functions = keeps-trans a.functions b.functions c.functions p.functions q.functions;
  mutexes = keeps-trans a.mutexes b.mutexes c.mutexes p.mutexes q.mutexes;
  conds = keeps-trans a.conds b.conds c.conds p.conds q.conds;
  sems = keeps-trans a.sems b.sems c.sems p.sems q.sems;
  onces = keeps-trans a.onces b.onces c.onces p.onces q.onces;
}

module _ (s n : EventNames) where
  function-keeps : (f : ℕ) → KeepsAll n (with_function s n f)
  function-keeps f = record { functions = keeps-with _ n.functions; mutexes = keeps-refl n.mutexes; conds = keeps-refl n.conds; sems = keeps-refl n.sems; onces = keeps-refl n.onces }

  mutex-keeps : (m : ℕ) → KeepsAll n (with_mutex s n m)
  mutex-keeps m = record { functions = keeps-refl n.functions; mutexes = keeps-with _ n.mutexes; conds = keeps-refl n.conds; sems = keeps-refl n.sems; onces = keeps-refl n.onces }

  cond-keeps : (c : ℕ) → KeepsAll n (with_cond s n c)
  cond-keeps c = record { functions = keeps-refl n.functions; mutexes = keeps-refl n.mutexes; conds = keeps-with _ n.conds; sems = keeps-refl n.sems; onces = keeps-refl n.onces }

  sem-keeps : (k : ℕ) → KeepsAll n (with_sem s n k)
  sem-keeps k = record { functions = keeps-refl n.functions; mutexes = keeps-refl n.mutexes; conds = keeps-refl n.conds; sems = keeps-with _ n.sems; onces = keeps-refl n.onces }

  once-keeps : (o : ℕ) → KeepsAll n (with_once s n o)
  once-keeps o = record { functions = keeps-refl n.functions; mutexes = keeps-refl n.mutexes; conds = keeps-refl n.conds; sems = keeps-refl n.sems; onces = keeps-with _ n.onces }

  after-keeps : (w : What) → KeepsAll n (after s n w)
  after-keeps (what.Pushed f a) = function-keeps f
  after-keeps (what.Popped f a run) = function-keeps f
  after-keeps (what.HandlerRun f a) = function-keeps f
  after-keeps (what.DtorRun pass key f v) = function-keeps f
  after-keeps (what.PrepareRun f) = function-keeps f
  after-keeps (what.ParentRun f) = function-keeps f
  after-keeps (what.ChildRun f) = function-keeps f
  after-keeps (what.ExitRun f) = function-keeps f
  after-keeps (what.EndingInWait c m) = record { functions = keeps-refl n.functions; mutexes = keeps-with _ n.mutexes; conds = keeps-with _ n.conds; sems = keeps-refl n.sems; onces = keeps-refl n.onces }
  after-keeps (what.Acquired m) = mutex-keeps m
  after-keeps (what.Released m) = mutex-keeps m
  after-keeps (what.Signalled c id) = cond-keeps c
  after-keeps (what.BroadcastTo c count) = cond-keeps c
  after-keeps (what.WaitCanceled c) = cond-keeps c
  after-keeps (what.WaitExpired c) = cond-keeps c
  after-keeps (what.HandedOn c id) = cond-keeps c
  after-keeps (what.Taken k) = sem-keeps k
  after-keeps (what.Posted k) = sem-keeps k
  after-keeps (what.OnceCalled o) = once-keeps o
  after-keeps (what.OnceDone o) = once-keeps o
  after-keeps _ = all-refl n

all-keeps : (s n : EventNames) (events : List Event) → KeepsAll n (after_all s n events)
all-keeps s n [] = all-refl n
all-keeps s n (e ∷ events) =
    all-trans n (after s n e.what) (after_all s (after s n e.what) events) (after-keeps s n e.what) (all-keeps s (after s n e.what) events)

-- a script's event whose line is read back
abbrev pub HasText : Script → Event → Type 0
HasText script e = EventNamesItems (event_names script) e × EventNumbersFit e

pub line_again : (script : Script) (n more : EventNames) (e : Event) → HasText script e → KeepsAll (after (event_names script) n e.what) more
    → event_of n (event_line script e) ≡ Some (after (event_names script) n e.what, renamed_event (naming (event_names script) more) e)
unfolding event_line
line_again script n more e (items, fit) keeps =
    rw (thread_again e.pid e.tid fit.pid items.pid fit.tid items.tid, event_again (event_names script) n more (names_of_scripts script) e.what items.what fit.what keeps) refl

pub events_again : (script : Script) (n more : EventNames) (events : List Event) → All (HasText script) events → KeepsAll (after_all (event_names script) n events) more
    → events_of n (map (event_line script) events) ≡ Some (after_all (event_names script) n events, map (renamed_event (naming (event_names script) more)) events)
events_again script n more [] texts keeps = refl
events_again script n more (e ∷ events) texts keeps =
    let s = event_names script in
    let next = after s n e.what in
    rw (
      line_again script n more e (All-head (HasText script) e events texts) (all-trans next (after_all s next events) more (all-keeps s next events) keeps),
      events_again script next more events (All-tail (HasText script) e events texts) keeps,
    ) refl

pub have_texts : (script : Script) (events : List Event) → All (EventNamesItems (event_names script)) events → All EventNumbersFit events → All (HasText script) events
have_texts script [] items fit = All-nil (HasText script)
have_texts script (e ∷ events) items fit =
    let names = event_names script in
    All-cons (HasText script) e events (All-head (EventNamesItems names) e events items, All-head EventNumbersFit e events fit)
    (have_texts script events (All-tail (EventNamesItems names) e events items) (All-tail EventNumbersFit e events fit))
