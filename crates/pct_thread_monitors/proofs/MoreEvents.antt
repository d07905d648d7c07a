-- The notes after an event more.
use Rattle.std.proofs.Common.{◌≡◌, ℕ, Bool, true, false, ◌&&◌, ◌||◌, cond, List, ◌∷◌, Some, is_some, refl, sym, ap, ◌∙◌, nat_eq}
use Rattle.std.proofs.lemmas.Bool.{and_parts, eqb-true}
use Rattle.pct_model.specs.declared.event.Event.{Event}
use Rattle.pct_model.specs.declared.event.What.{What}
use Rattle.pct_model.specs.declared.event.What.TheVariants as what
use Rattle.pct_model.specs.StopTable.{has_begun_to_end}
use Rattle.pct_laws.specs.CancelEvents.{requests_id, enabled_after, is_requested, is_enabled_last}
use Rattle.pct_laws.specs.KnownThreads.{makes_process, is_own, is_fork_of, creates_id, is_known}
use Rattle.pct_laws.specs.NewestEvents.{newest_event}
use Rattle.pct_laws.specs.ThreadSummary.{ThreadSummary, with_event, summary_of}
use Rattle.pct_thread_monitors.specs.declared.note.Note.{Note}
use Rattle.pct_thread_monitors.specs.IsNote.{IsNote}
use Rattle.pct_thread_monitors.specs.Notes.{names, marked, copied, next_note}
use Rattle.pct_thread_monitors.proofs.NoteSet.{by_cond, set_note_told}

or_if : (s b : Bool) → cond s true b ≡ (s || b)
or_if true b = refl
or_if false b = refl

same_cond : {A : Type 0} (t : Bool) (a : A) → cond t a a ≡ a
same_cond true a = refl
same_cond false a = refl

-- ---- what an event of a thread changes in its note and in its summary

enabled_next : (w : What) (note : Note) → (next_note w note).enabled ≡ enabled_after w note.enabled
enabled_next (what.StateSet enable) note = refl
enabled_next _ note = refl

requested_next : (w : What) (note : Note) → (next_note w note).requested ≡ note.requested
requested_next (what.StateSet enable) note = refl
requested_next _ note = refl

known_next : (w : What) (note : Note) → (next_note w note).known ≡ note.known
known_next (what.StateSet enable) note = refl
known_next _ note = refl

newest_next : (w : What) (note : Note) → (next_note w note).newest ≡ Some w
newest_next (what.StateSet enable) note = refl
newest_next _ note = refl

begun_next : (w : What) (note : Note) (s : ThreadSummary) → note.begun ≡ has_begun_to_end s.reason
    → (next_note w note).begun ≡ has_begun_to_end (with_event w s).reason
begun_next (what.EndingExit v) note s is = refl
begun_next what.EndingCanceled note s is = refl
begun_next (what.EndingInWait c m) note s is = refl
begun_next _ note s is = is

exiting_next : (w : What) (note : Note) (s : ThreadSummary) → note.exiting ≡ s.exiting
    → (next_note w note).exiting ≡ (with_event w s).exiting
exiting_next (what.ExitBegun v) note s is = refl
exiting_next _ note s is = is

ended_next : (w : What) (note : Note) (s : ThreadSummary) → note.ended ≡ is_some s.ended
    → (next_note w note).ended ≡ is_some (with_event w s).ended
ended_next (what.EndedWith v) note s is = refl
ended_next _ note s is = is

-- a test of a summary after an event, where a fork changes nothing that the test reads
summary_by : (test : ThreadSummary → Bool) (own fork : Bool) (w : What) (s caller : ThreadSummary) (next before : Bool)
    → ((handlers : List (ℕ × ℕ)) → test (record s { handlers = handlers }) ≡ test s) → next ≡ test (with_event w s) → before ≡ test s
    → cond own next before ≡ test (cond own (with_event w s) (cond fork (record s { handlers = caller.handlers }) s))
summary_by test true fork w s caller next before same after is = after
summary_by test false true w s caller next before same after is = is ∙ sym (same caller.handlers)
summary_by test false false w s caller next before same after is = is

-- ---- what an event changes in the notes of threads that it names

requested_marked : (w : What) (u : ℕ) (note : Note) (t : Bool)
    → cond (t && names u w) (marked w note).requested note.requested ≡ ((t && requests_id u w) || note.requested)
requested_marked w u note false = refl
requested_marked (what.Request id) u note true = or_if (nat_eq id u) note.requested
requested_marked (what.Created id detached) u note true = same_cond (nat_eq id u) note.requested
requested_marked _ u note true = refl

known_marked : (w : What) (u : ℕ) (note : Note) (t : Bool)
    → cond (t && names u w) (marked w note).known note.known ≡ ((t && creates_id u w) || note.known)
known_marked w u note false = refl
known_marked (what.Created id detached) u note true = or_if (nat_eq id u) note.known
known_marked (what.Request id) u note true = same_cond (nat_eq id u) note.known
known_marked _ u note true = refl

known_order : (fork a b : Bool) → cond fork true (a || b) ≡ (a || (fork || b))
known_order true true b = refl
known_order true false b = refl
known_order false a b = refl

-- a part of a note that does not say whether the thread is known, or whether its end was requested
abbrev IsUnmarked : {A : Type 0} → (Note → A) → Type 0
IsUnmarked part = ((note : Note) (b : Bool) → part (record note { known = b }) ≡ part note)
    × ((note : Note) (b : Bool) → part (record note { requested = b }) ≡ part note)

-- a part of a note that a replica does not have from the thread that called fork
abbrev IsUncopied : {A : Type 0} → (Note → A) → Type 0
IsUncopied part = (caller note : Note) → part (copied caller note) ≡ part note

unmarked : {A : Type 0} (part : Note → A) → IsUnmarked part → (w : What) (note : Note) → part (marked w note) ≡ part note
unmarked part same (what.Created id detached) note = same.0 note true
unmarked part same (what.Request id) note = same.1 note true
unmarked part same _ note = refl

-- ---- the notes after an event

module _ (e : Event) (events : List Event) (n0 n1 n2 n3 : ℕ → ℕ → Note)
    (first : (q u : ℕ) → n1 q u ≡ cond (nat_eq e.pid q && names u e.what) (marked e.what (n0 q u)) (n0 q u))
    (second : (q u : ℕ) → n2 q u ≡ cond (nat_eq e.tid u && makes_process q e.what) (copied (n1 e.pid e.tid) (n1 q u)) (n1 q u))
    (third : (q u : ℕ) → n3 q u ≡ cond (nat_eq e.pid q && nat_eq e.tid u) (next_note e.what (n2 e.pid e.tid)) (n2 q u))
    (told : (q u : ℕ) → IsNote (n0 q u) q u events) (q u : ℕ) where
  abbrev own : Bool
  own = is_own q u e

  abbrev fork : Bool
  fork = is_fork_of q u e

  abbrev inside : Bool
  inside = nat_eq e.pid q

  -- ---- parts of notes

  marked_part : {A : Type 0} (part : Note → A)
      → part (n1 q u) ≡ cond (inside && names u e.what) (part (marked e.what (n0 q u))) (part (n0 q u))
  marked_part part = ap part (first q u) ∙ by_cond part (inside && names u e.what) (marked e.what (n0 q u)) (n0 q u)

  copied_part : {A : Type 0} (part : Note → A) → part (n2 q u) ≡ cond fork (part (copied (n1 e.pid e.tid) (n1 q u))) (part (n1 q u))
  copied_part part = ap part (second q u) ∙ by_cond part fork (copied (n1 e.pid e.tid) (n1 q u)) (n1 q u)

  own_part : {A : Type 0} (part : Note → A) → part (n3 q u) ≡ cond own (part (next_note e.what (n2 q u))) (part (n2 q u))
  own_part part =
      ap part (third q u ∙ set_note_told (next_note e.what) n2 e.pid e.tid q u)
      ∙ by_cond part own (next_note e.what (n2 q u)) (n2 q u)

  -- a part that an event of the thread leaves
  left_part : {A : Type 0} (part : Note → A) → ((w : What) (note : Note) → part (next_note w note) ≡ part note)
      → part (n3 q u) ≡ part (n2 q u)
  left_part part same = own_part part ∙ ap (λ x. cond own x (part (n2 q u))) (same e.what (n2 q u)) ∙ same_cond own (part (n2 q u))

  -- a part that a fork does not copy
  uncopied_part : {A : Type 0} (part : Note → A) → IsUncopied part → part (n2 q u) ≡ part (n1 q u)
  uncopied_part part same =
      copied_part part ∙ ap (λ x. cond fork x (part (n1 q u))) (same (n1 e.pid e.tid) (n1 q u)) ∙ same_cond fork (part (n1 q u))

  unmarked_part : {A : Type 0} (part : Note → A) → IsUnmarked part → (p t : ℕ) → part (n1 p t) ≡ part (n0 p t)
  unmarked_part part same p t =
      let named = nat_eq e.pid p && names t e.what in
      ap part (first p t) ∙ by_cond part named (marked e.what (n0 p t)) (n0 p t)
      ∙ ap (λ x. cond named x (part (n0 p t))) (unmarked part same e.what (n0 p t)) ∙ same_cond named (part (n0 p t))

  -- a part that only an event of the thread changes
  part_before : {A : Type 0} (part : Note → A) → IsUnmarked part → IsUncopied part → part (n2 q u) ≡ part (n0 q u)
  part_before part same copies = uncopied_part part copies ∙ unmarked_part part same q u

  -- ---- requests, known threads and newest events

  requested_told : (n3 q u).requested ≡ is_requested q u (e ∷ events)
  requested_told =
      left_part (λ n. n.requested) requested_next ∙ uncopied_part (λ n. n.requested) (λ caller note. refl)
      ∙ marked_part (λ n. n.requested) ∙ requested_marked e.what u (n0 q u) inside
      ∙ ap (λ b. (inside && requests_id u e.what) || b) (told q u).requested

  known_one : (n1 q u).known ≡ ((inside && creates_id u e.what) || is_known q u events)
  known_one =
      marked_part (λ n. n.known) ∙ known_marked e.what u (n0 q u) inside
      ∙ ap (λ b. (inside && creates_id u e.what) || b) (told q u).known

  known_told : (n3 q u).known ≡ is_known q u (e ∷ events)
  known_told =
      left_part (λ n. n.known) known_next ∙ copied_part (λ n. n.known) ∙ ap (cond fork true) known_one
      ∙ known_order fork (inside && creates_id u e.what) (is_known q u events)

  newest_told : (n3 q u).newest ≡ newest_event q u (e ∷ events)
  newest_told =
      own_part (λ n. n.newest) ∙ ap (λ x. cond own x (n2 q u).newest) (newest_next e.what (n2 q u))
      ∙ ap (cond own (Some e.what))
      (part_before (λ n. n.newest) ((λ note b. refl), (λ note b. refl)) (λ caller note. refl) ∙ (told q u).newest)

  -- ---- cancelability

  enabled_one : (p t : ℕ) → (n1 p t).enabled ≡ is_enabled_last p t events
  enabled_one p t = unmarked_part (λ n. n.enabled) ((λ note b. refl), (λ note b. refl)) p t ∙ (told p t).enabled

  abbrev enabled_fork : Bool
  enabled_fork = cond fork (is_enabled_last e.pid u events) (is_enabled_last q u events)

  enabled_copy : (makes : Bool) → fork ≡ makes
      → cond makes (n1 e.pid e.tid).enabled (n1 q u).enabled ≡ cond makes (is_enabled_last e.pid u events) (is_enabled_last q u events)
  enabled_copy true is =
      enabled_one e.pid e.tid
      ∙ ap (λ t. is_enabled_last e.pid t events) (eqb-true e.tid u (and_parts (nat_eq e.tid u) (makes_process q e.what) is).0)
  enabled_copy false is = enabled_one q u

  -- the replica of a thread in its own process is that thread
  enabled_by : (is_own : Bool) → own ≡ is_own
      → cond is_own (enabled_after e.what enabled_fork) enabled_fork
      ≡ cond is_own (enabled_after e.what (is_enabled_last q u events)) enabled_fork
  enabled_by true is =
      let same : e.pid ≡ q = eqb-true e.pid q (and_parts inside (nat_eq e.tid u) is).0 in
      ap (enabled_after e.what) (ap (λ p. cond fork (is_enabled_last p u events) (is_enabled_last q u events)) same
      ∙ same_cond fork (is_enabled_last q u events))
  enabled_by false is = refl

  enabled_told : (n3 q u).enabled ≡ is_enabled_last q u (e ∷ events)
  enabled_told =
      own_part (λ n. n.enabled) ∙ ap (λ x. cond own x (n2 q u).enabled) (enabled_next e.what (n2 q u))
      ∙ ap (λ b. cond own (enabled_after e.what b) b) (copied_part (λ n. n.enabled) ∙ enabled_copy fork refl) ∙ enabled_by own refl

  -- ---- the end

  -- a part that is a test of the summary, which a fork does not change
  summary_part : (part : Note → Bool) (test : ThreadSummary → Bool) → IsUnmarked part → IsUncopied part
      → ((handlers : List (ℕ × ℕ)) → test (record (summary_of q u events) { handlers = handlers }) ≡ test (summary_of q u events))
      → ((w : What) (note : Note) (s : ThreadSummary) → part note ≡ test s → part (next_note w note) ≡ test (with_event w s))
      → part (n0 q u) ≡ test (summary_of q u events) → part (n3 q u) ≡ test (summary_of q u (e ∷ events))
  summary_part part test same copies reads next is =
      let before = part_before part same copies ∙ is in
      own_part part
      ∙ summary_by test own fork e.what (summary_of q u events) (summary_of e.pid u events)
      (part (next_note e.what (n2 q u))) (part (n2 q u)) reads (next e.what (n2 q u) (summary_of q u events) before) before

  begun_told : (n3 q u).begun ≡ has_begun_to_end (summary_of q u (e ∷ events)).reason
  begun_told =
      summary_part (λ n. n.begun) (λ s. has_begun_to_end s.reason) ((λ note b. refl), (λ note b. refl)) (λ caller note. refl)
      (λ handlers. refl) begun_next (told q u).begun

  exiting_told : (n3 q u).exiting ≡ (summary_of q u (e ∷ events)).exiting
  exiting_told =
      summary_part (λ n. n.exiting) (λ s. s.exiting) ((λ note b. refl), (λ note b. refl)) (λ caller note. refl) (λ handlers. refl)
      exiting_next (told q u).exiting

  ended_told : (n3 q u).ended ≡ is_some (summary_of q u (e ∷ events)).ended
  ended_told =
      summary_part (λ n. n.ended) (λ s. is_some s.ended) ((λ note b. refl), (λ note b. refl)) (λ caller note. refl) (λ handlers. refl)
      ended_next (told q u).ended

  pub notes_told : IsNote (n3 q u) q u (e ∷ events)
  notes_told = record {
    requested = requested_told;
    enabled = enabled_told;
    begun = begun_told;
    exiting = exiting_told;
    ended = ended_told;
    known = known_told;
    newest = newest_told;
  }
