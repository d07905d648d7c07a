-- Readings of the events of a run: what the events so far report of a process, by its own events and by the fork that makes it.
use Rattle.pct_names.proofs.Names.{◌&&◌, ◌++◌, [], and_right, ap, ap₂, Bool, cond, Entry, Event, event_of, false, Forked, List, list_any}
use Rattle.pct_names.proofs.Names.{map, nat_eq, or_parts, refl, true, What, ℕ, ◌∙◌, ◌∷◌, ◌≡◌}
use mathlib.Core.Bool.{and-true}
use Rattle.std.proofs.Common.{eq-eqb}
use Rattle.pct_laws.specs.KnownThreads.{makes_process, is_in, is_own}

-- ---- processes

-- a reading of events, oldest first
pub record Reading (T : Type 0) : Type 0 where
  -- what no event reports of a process, if it is the initial one or not
  pub start : Bool → T
  -- what is reported after an event of the process
  pub next : Event → T → T
  -- whether the fork that makes the process passes something on
  pub inherits : Event → Bool
  -- what is reported then, by what was reported of the process that forked, and of this one
  pub born : T → T → T

module _ {T : Type 0} (f : Reading T) where
  -- what is reported of process pid after an event
  abbrev pub after_event : ℕ → Event → T → T → T
  after_event pid e parent k = cond (is_in pid e) (f.next e k) (cond (f.inherits e && makes_process pid e.what) (f.born parent k) k)

  -- what events, newest first, report of process pid
  abbrev pub reported_by : ℕ → List Event → T
  reported_by pid [] = f.start (nat_eq 1 pid)
  reported_by pid (e ∷ earlier) = after_event pid e (reported_by e.pid earlier) (reported_by pid earlier)

  -- a function of events that begins and goes on so is the reading
  pub is_reading : (g : ℕ → List Event → T) → ((pid : ℕ) → g pid [] ≡ f.start (nat_eq 1 pid)) → ((pid : ℕ) (e : Event) (earlier : List Event) → g pid (e ∷ earlier) ≡ after_event pid e (g e.pid earlier) (g pid earlier)) → (pid : ℕ) (events : List Event) → g pid events ≡ reported_by pid events
  is_reading g starts goes_on pid [] = starts pid
  is_reading g starts goes_on pid (e ∷ earlier) = goes_on pid e earlier ∙ ap₂ (after_event pid e) (is_reading g starts goes_on e.pid earlier) (is_reading g starts goes_on pid earlier)

  -- what is reported after events of the process, newest first
  abbrev pub after_own : List Event → T → T
  after_own [] k = k
  after_own (e ∷ events) k = f.next e (after_own events k)

  -- what is reported of the process that a fork makes, by what was reported of the process that forks, and of this one
  abbrev pub at_birth : Entry → ℕ → T → T → T
  at_birth e pid parent k = cond (f.inherits (event_of e (Forked pid))) (f.born parent k) k

  module _ (e : Entry) (earlier : List Event) where
    -- the events of a step, of its own process
    pub own_after : (added : List What) → reported_by e.pid (map (event_of e) added ++ earlier) ≡ after_own (map (event_of e) added) (reported_by e.pid earlier)
    own_after [] = refl
    own_after (w ∷ added) =
        let k : T = reported_by e.pid (map (event_of e) added ++ earlier) in
        ap (λ (own : Bool). cond own (f.next (event_of e w) k) (cond (f.inherits (event_of e w) && makes_process e.pid w) (f.born k k) k)) (eq-eqb e.pid e.pid refl)
        ∙ ap (f.next (event_of e w)) (own_after added)

    -- of another process, which they do not make
    pub other_after : (pid : ℕ) → nat_eq e.pid pid ≡ false → (added : List What) → list_any (makes_process pid) added ≡ false → reported_by pid (map (event_of e) added ++ earlier) ≡ reported_by pid earlier
    other_after pid differs [] none = refl
    other_after pid differs (w ∷ added) none =
        let parts = or_parts (makes_process pid w) (list_any (makes_process pid) added) none in
        let k : T = reported_by pid (map (event_of e) added ++ earlier) in
        let made : T = f.born (reported_by e.pid (map (event_of e) added ++ earlier)) k in
        ap (λ (own : Bool). cond own (f.next (event_of e w) k) (cond (f.inherits (event_of e w) && makes_process pid w) made k)) differs
        ∙ ap (λ (makes : Bool). cond makes made k) (and_right (f.inherits (event_of e w)) (makes_process pid w) parts.0) ∙ other_after pid differs added parts.1

    -- of the process that they make
    pub born_after : (pid : ℕ) → nat_eq e.pid pid ≡ false → reported_by pid (event_of e (Forked pid) ∷ earlier) ≡ at_birth e pid (reported_by e.pid earlier) (reported_by pid earlier)
    born_after pid differs =
        let k : T = reported_by pid earlier in
        let made : T = f.born (reported_by e.pid earlier) k in
        let inherits : Bool = f.inherits (event_of e (Forked pid)) in
        ap (λ (own : Bool). cond own (f.next (event_of e (Forked pid)) k) (cond (inherits && nat_eq pid pid) made k)) differs
        ∙ ap (λ (makes : Bool). cond (inherits && makes) made k) (eq-eqb pid pid refl) ∙ ap (λ (b : Bool). cond b made k) (and-true inherits)

-- ---- threads

-- a reading of the events of a thread
pub record ThreadReading (T : Type 0) : Type 0 where
  -- what no event reports
  pub start : T
  -- what is reported after an event of the thread
  pub next : What → T → T
  -- whether a fork passes something on to the replica of the thread that calls it
  pub inherits : Bool
  -- what is reported of the replica then, by what was reported of that thread, and of this one
  pub replica : T → T → T

module _ {T : Type 0} (g : ThreadReading T) where
  -- the reading of thread tid
  abbrev pub of_thread : ℕ → Reading T
  of_thread tid = record {
    start = λ initial. g.start;
    next = λ e k. cond (nat_eq e.tid tid) (g.next e.what k) k;
    inherits = λ e. g.inherits && nat_eq e.tid tid;
    born = g.replica;
  }

  one_event : (own same inherits makes : Bool) (next born k : T) → cond (own && same) next (cond ((inherits && same) && makes) born k) ≡ cond own (cond same next k) (cond ((inherits && same) && makes) born k)
  one_event true true inherits makes next born k = refl
  one_event true false true makes next born k = refl
  one_event true false false makes next born k = refl
  one_event false same inherits makes next born k = refl

  -- a function of events is the reading, if it goes on so with an event of the thread, with a fork of which it is the replica, and with
  -- another event
  pub is_thread_reading : (tid : ℕ) (h : ℕ → List Event → T) → ((pid : ℕ) → h pid [] ≡ g.start)
      → ((pid : ℕ) (e : Event) (earlier : List Event) → h pid (e ∷ earlier) ≡ cond (is_own pid tid e) (g.next e.what (h pid earlier)) (cond ((g.inherits && nat_eq e.tid tid) && makes_process pid e.what) (g.replica (h e.pid earlier) (h pid earlier)) (h pid earlier)))
      → (pid : ℕ) (events : List Event) → h pid events ≡ reported_by (of_thread tid) pid events
  is_thread_reading tid h starts goes_on =
      is_reading (of_thread tid) h starts (λ pid e earlier. goes_on pid e earlier ∙ one_event (is_in pid e) (nat_eq e.tid tid) g.inherits (makes_process pid e.what) (g.next e.what (h pid earlier)) (g.replica (h e.pid earlier) (h pid earlier)) (h pid earlier))

  -- what is reported after events of the thread, newest first
  abbrev pub after_all : List What → T → T
  after_all [] k = k
  after_all (w ∷ events) k = g.next w (after_all events k)

  -- the events of a step of another thread, or of the thread
  pub read_step : (e : Entry) (tid : ℕ) (own : Bool) → nat_eq e.tid tid ≡ own → (added : List What) (k : T) → after_own (of_thread tid) (map (event_of e) added) k ≡ cond own (after_all added k) k
  read_step e tid true is [] k = refl
  read_step e tid false is [] k = refl
  read_step e tid true is (w ∷ added) k =
      let later : T = after_own (of_thread tid) (map (event_of e) added) k in
      ap (λ (own : Bool). cond own (g.next w later) later) is ∙ ap (g.next w) (read_step e tid true is added k)
  read_step e tid false is (w ∷ added) k =
      let later : T = after_own (of_thread tid) (map (event_of e) added) k in
      ap (λ (own : Bool). cond own (g.next w later) later) is ∙ read_step e tid false is added k
