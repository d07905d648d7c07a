-- The law of handlers that ran follows from the law of cleanup handlers and destructors, where each fork comes before the events of the
-- process that it makes. This is over lists of events alone.
use Rattle.pct_names.proofs.Names.{◌&&◌, ◌++◌, ◌<◌, [], and_from, and_parts, ap, ap₂, arith, Bool, cond, Event, false, false≢true}
use Rattle.pct_names.proofs.Names.{has_begun_to_end, inl, inr, is_empty, length, List, list_any, nat_eq, not, not-true, or_cases, or_right}
use Rattle.pct_names.proofs.Names.{Reason, refl, subst, sym, true, What, without_first, ◌||◌, ℕ, ◌∙◌, ◌∷◌, ◌≡◌}
use Rattle.std.proofs.Common.{append-nil, append_assoc, length-append, eqb-true, eq-eqb}
use Rattle.std.proofs.lemmas.Bool.{ltb-true}
use Rattle.pct_model.specs.declared.event.What.TheVariants as what
use Rattle.pct_laws.specs.KnownThreads.{is_in, is_own, is_fork_of, makes_process}
use Rattle.pct_laws.specs.Each.{each}
use Rattle.pct_laws.specs.Once.{is_newest, may_come}
use Rattle.pct_laws.specs.Once as Once
use Rattle.pct_laws.specs.ProcessLaw.{may_change}
use Rattle.pct_laws.specs.ProcessLaw as ProcessLaw
use Rattle.pct_laws.specs.RanAll.{begins_to_end, has_begun, open_at_ending, handler_run, handlers_run, are_same, may_end}
use Rattle.pct_laws.specs.RanAll as RanAll
use Rattle.pct_laws.specs.ThreadSummary.{ThreadSummary, with_event, summary_of}

-- ---- the handlers of a thread

-- of a thread, by what events report of it: its open handlers, those that are left, and its reason to end; those that were open at its
-- first ending event, and those that ran; whether its process has an event, and whether it has an ending event
data HandlersFit (handlers left : List (ℕ × ℕ)) (why : Reason) (opened ran : List (ℕ × ℕ)) (present : Bool) : Bool → Type 0 where
  -- it has not begun to end
  before_end : has_begun_to_end why ≡ false → left ≡ [] → ran ≡ [] → HandlersFit handlers left why opened ran present false
  -- it has, and the handlers that were open then are those that ran and those that are left, above which others were pushed
  ending : has_begun_to_end why ≡ true → (pushed : List (ℕ × ℕ)) → handlers ≡ pushed ++ left → ran ++ left ≡ opened → present ≡ true → HandlersFit handlers left why opened ran present true

-- ---- lists

-- handlers without the newest, where more are open than left
popped : (handlers pushed left : List (ℕ × ℕ)) → handlers ≡ pushed ++ left → length left < length handlers → (fewer : List (ℕ × ℕ)) × (without_first handlers ≡ fewer ++ left)
popped handlers [] left parts more = absurd (omega (arith, more, ap length parts))
popped handlers (h ∷ pushed) left parts more = (pushed, ap without_first parts)

-- where as many are open as left, these are the open ones
none_pushed : (handlers pushed left : List (ℕ × ℕ)) → handlers ≡ pushed ++ left → length handlers ≡ length left → handlers ≡ left
none_pushed handlers [] left parts same = parts
none_pushed handlers (h ∷ pushed) left parts same = absurd (omega (arith, same, ap length parts, length-append pushed left))

-- the newest of some handlers, and the others
newest_first : (handlers : List (ℕ × ℕ)) (f a : ℕ) → is_newest f a handlers ≡ true → handlers ≡ (f, a) ∷ without_first handlers
newest_first [] f a is = absurd (false≢true is)
newest_first ((g, b) ∷ handlers) f a is = let p = and_parts (nat_eq g f) (nat_eq b a) is in ap₂ (λ (x y : ℕ). (x, y) ∷ handlers) (eqb-true g f p.0) (eqb-true b a p.1)

-- no handler is open
none_open : (handlers : List (ℕ × ℕ)) → is_empty handlers ≡ true → handlers ≡ []
none_open [] is = refl
none_open (h ∷ handlers) is = absurd (false≢true is)

-- where no handler is open, none is left
none_left : (handlers pushed left : List (ℕ × ℕ)) → handlers ≡ pushed ++ left → handlers ≡ [] → left ≡ []
none_left handlers [] left parts none = sym parts ∙ none
none_left handlers (h ∷ pushed) left parts none = absurd (cc)

-- handlers are the same as themselves
same_handlers : (handlers others : List (ℕ × ℕ)) → handlers ≡ others → are_same handlers others ≡ true
same_handlers [] [] same = refl
same_handlers [] (h ∷ others) same = cc
same_handlers (h ∷ handlers) [] same = cc
same_handlers ((g, b) ∷ handlers) ((f, a) ∷ others) same = let heads : ◌≡◌ {A = ℕ × ℕ} (g, b) (f, a) = cc in and_from _ _ (and_from _ _ (eq-eqb g f (ap (λ (h : ℕ × ℕ). h.0) heads)) (eq-eqb b a (ap (λ (h : ℕ × ℕ). h.1) heads))) (same_handlers handlers others (ap without_first same))

-- where no handler runs, those that ran and those that are left are the same
same_ran : (ran left opened : List (ℕ × ℕ)) → ran ++ left ≡ opened → (ran ++ []) ++ left ≡ opened
same_ran ran left opened all = ap (λ (r : List (ℕ × ℕ)). r ++ left) (append-nil ran) ∙ all

-- ---- an event of the thread

module _ (passes : ℕ) (s : ThreadSummary) (opened ran : List (ℕ × ℕ)) (present : Bool) where
  -- the handlers after an event of the thread
  abbrev After : Bool → What → Type 0
  After begun w = HandlersFit (with_event w s).handlers (with_event w s).left (with_event w s).reason (cond begun opened (cond (begins_to_end w) s.handlers [])) (ran ++ handler_run w) true (begins_to_end w || begun)

  -- the thread has not both begun to end and not
  not_begun : has_begun_to_end s.reason ≡ false → has_begun_to_end s.reason ≡ true → ⊥
  not_begun none begun = false≢true (sym none ∙ begun)

  -- after the ending event, a pop removes a handler that was pushed since then
  more : (f a : ℕ) (run : Bool) → may_come passes (what.Popped f a run) s ≡ true → has_begun_to_end s.reason ≡ true → length s.left < length s.handlers
  more f a run may begun = elim (or_cases (not (has_begun_to_end s.reason)) _ (and_parts (is_newest f a s.handlers) _ may).1) [
    | inl not_yet ↦ absurd (not_begun (not-true (has_begun_to_end s.reason) not_yet) begun)
    | inr fewer ↦ ltb-true _ _ fewer
  ]

  -- of a thread that has not begun to end
  own_before : (w : What) → may_come passes w s ≡ true → has_begun_to_end s.reason ≡ false → s.left ≡ [] → ran ≡ [] → After false w
  own_before (what.HandlerRun f a) may none left none_ran = absurd (not_begun none (and_parts _ _ (and_parts _ _ may).0).1)
  own_before (what.EndingExit v) may none left none_ran = ending refl [] refl (ap (λ (r : List (ℕ × ℕ)). (r ++ []) ++ s.handlers) none_ran) refl
  own_before what.EndingCanceled may none left none_ran = ending refl [] refl (ap (λ (r : List (ℕ × ℕ)). (r ++ []) ++ s.handlers) none_ran) refl
  own_before (what.EndingInWait c m) may none left none_ran = ending refl [] refl (ap (λ (r : List (ℕ × ℕ)). (r ++ []) ++ s.handlers) none_ran) refl
  own_before _ may none left none_ran = before_end none left (ap (λ (r : List (ℕ × ℕ)). r ++ []) none_ran)

  -- of one that has
  own_ending : (w : What) → may_come passes w s ≡ true → has_begun_to_end s.reason ≡ true → (pushed : List (ℕ × ℕ)) → s.handlers ≡ pushed ++ s.left → ran ++ s.left ≡ opened → After true w
  own_ending (what.Pushed f a) may begun pushed parts all = ending begun ((f, a) ∷ pushed) (ap (λ (hs : List (ℕ × ℕ)). (f, a) ∷ hs) parts) (same_ran ran s.left opened all) refl
  own_ending (what.Popped f a run) may begun pushed parts all = let fewer = popped s.handlers pushed s.left parts (more f a run may begun) in ending begun fewer.0 fewer.1 (same_ran ran s.left opened all) refl
  own_ending (what.HandlerRun f a) may begun pushed parts all =
      let same : s.handlers ≡ s.left = none_pushed s.handlers pushed s.left parts (eqb-true _ _ (and_parts _ _ may).1) in
      let first : s.left ≡ (f, a) ∷ without_first s.left = newest_first s.left f a (ap (is_newest f a) (sym same) ∙ (and_parts _ _ (and_parts _ _ may).0).0) in
      ending begun [] (ap without_first same) (append_assoc ran ((f, a) ∷ []) (without_first s.left) ∙ ap (λ (l : List (ℕ × ℕ)). ran ++ l) (sym first) ∙ all) refl
  own_ending (what.EndingExit v) may begun pushed parts all = absurd (not_begun (not-true (has_begun_to_end s.reason) may) begun)
  own_ending what.EndingCanceled may begun pushed parts all = absurd (not_begun (not-true (has_begun_to_end s.reason) may) begun)
  own_ending (what.EndingInWait c m) may begun pushed parts all = absurd (not_begun (not-true (has_begun_to_end s.reason) may) begun)
  own_ending _ may begun pushed parts all = ending begun pushed parts (same_ran ran s.left opened all) refl

  -- of any thread
  own_fits : (begun : Bool) (w : What) → may_come passes w s ≡ true → HandlersFit s.handlers s.left s.reason opened ran present begun → After begun w
  own_fits false w may (before_end none left none_ran) = own_before w may none left none_ran
  own_fits true w may (ending begun pushed parts all here) = own_ending w may begun pushed parts all

  -- as the thread ends, the handlers that ran are those that were open
  end_allowed : (begun : Bool) (v : ℕ) → may_come passes (what.EndedWith v) s ≡ true → HandlersFit s.handlers s.left s.reason opened ran present begun → (begun && are_same ran opened) ≡ true
  end_allowed false v may (before_end none left none_ran) = absurd (not_begun none (and_parts _ _ (and_parts _ _ (and_parts _ _ may).0).0).0)
  end_allowed true v may (ending begun pushed parts all here) =
      let none : s.left ≡ [] = none_left s.handlers pushed s.left parts (none_open s.handlers (and_parts _ _ (and_parts _ _ may).0).1) in
      same_handlers ran opened (sym (append-nil ran) ∙ ap (λ (l : List (ℕ × ℕ)). ran ++ l) (sym none) ∙ all)

-- ---- events

-- a fork that makes a process comes before each event of the process
makes_first : (w : What) (by pid tid : ℕ) (earlier : List Event) → may_change w by tid earlier ≡ true → makes_process pid w ≡ true → list_any (is_in pid) earlier ≡ false
makes_first (what.Forked child) by pid tid earlier may makes = subst (λ (n : ℕ). list_any (is_in n) earlier ≡ false) (eqb-true child pid makes) (not-true (list_any (is_in child) earlier) (and_parts _ _ may).1)
makes_first _ by pid tid earlier may makes = absurd (false≢true makes)

change_of : (e : Event) (earlier : List Event) → ProcessLaw.allows e earlier ≡ true → may_change e.what e.pid e.tid earlier ≡ true
change_of e earlier may = (and_parts _ (may_change e.what e.pid e.tid earlier) may).1

module _ (passes pid tid : ℕ) where
  -- thread tid of process pid after some events
  abbrev Fits : List Event → Type 0
  Fits events = HandlersFit (summary_of pid tid events).handlers (summary_of pid tid events).left (summary_of pid tid events).reason (open_at_ending pid tid events) (handlers_run pid tid events) (list_any (is_in pid) events) (has_begun pid tid events)

  module _ (e : Event) (earlier : List Event) where
    abbrev s : ThreadSummary
    s = summary_of pid tid earlier

    -- the handlers as the replica of a thread begins with them, or as they were
    abbrev with_handlers : Bool → ThreadSummary
    with_handlers forks = cond forks (record s { handlers = (summary_of e.pid tid earlier).handlers }) s

    -- what is known before an event, if the thread has begun to end or not
    abbrev FitsBefore : Bool → Type 0
    FitsBefore begun = HandlersFit s.handlers s.left s.reason (open_at_ending pid tid earlier) (handlers_run pid tid earlier) (list_any (is_in pid) earlier) begun

    -- and after it, if it is one of the thread or not, a fork of which the thread is the replica or not, and one of the process or not
    abbrev FitsAfter : Bool → Bool → Bool → Bool → Type 0
    FitsAfter begun own forks here =
        HandlersFit (cond own (with_event e.what s) (with_handlers forks)).handlers (cond own (with_event e.what s) (with_handlers forks)).left (cond own (with_event e.what s) (with_handlers forks)).reason
        (cond begun (open_at_ending pid tid earlier) (cond (own && begins_to_end e.what) s.handlers [])) (handlers_run pid tid earlier ++ cond own (handler_run e.what) [])
        (here || list_any (is_in pid) earlier) ((own && begins_to_end e.what) || begun)

    -- after an event of another thread
    other_fits : (begun forks here : Bool) → (forks ≡ true → list_any (is_in pid) earlier ≡ false) → FitsBefore begun → FitsAfter begun false forks here
    other_fits false true here first (before_end none left none_ran) = before_end none left (ap (λ (r : List (ℕ × ℕ)). r ++ []) none_ran)
    other_fits false false here first (before_end none left none_ran) = before_end none left (ap (λ (r : List (ℕ × ℕ)). r ++ []) none_ran)
    other_fits true true here first (ending begun pushed parts all present) = absurd (false≢true (sym (first refl) ∙ present))
    other_fits true false here first (ending begun pushed parts all present) =
        ending begun pushed parts (same_ran (handlers_run pid tid earlier) s.left (open_at_ending pid tid earlier) all) (or_right here (list_any (is_in pid) earlier) present)

    -- after any event
    event_fits : (begun own forks here : Bool) → (own ≡ true → here ≡ true) → (own ≡ true → may_come passes e.what s ≡ true) → (forks ≡ true → list_any (is_in pid) earlier ≡ false) → FitsBefore begun → FitsAfter begun own forks here
    event_fits begun true forks true in_process may first fits =
        own_fits passes s (open_at_ending pid tid earlier) (handlers_run pid tid earlier) (list_any (is_in pid) earlier) begun e.what (may refl) fits
    event_fits begun true forks false in_process may first fits = absurd (false≢true (in_process refl))
    event_fits begun false forks here in_process may first fits = other_fits begun forks here first fits

  -- the thread after events that keep both laws
  fits_events : (events : List Event) → each (Once.allows passes) events ≡ true → each ProcessLaw.allows events ≡ true → Fits events
  fits_events [] once law = before_end refl refl refl
  fits_events (e ∷ earlier) once law =
      event_fits e earlier (has_begun pid tid earlier) (is_own pid tid e) (is_fork_of pid tid e) (is_in pid e) (λ own. (and_parts (nat_eq e.pid pid) (nat_eq e.tid tid) own).0)
      (λ own. let same = and_parts (nat_eq e.pid pid) (nat_eq e.tid tid) own in
      ap₂ (λ (p n : ℕ). may_come passes e.what (summary_of p n earlier)) (sym (eqb-true e.pid pid same.0)) (sym (eqb-true e.tid tid same.1)) ∙ (and_parts (Once.allows passes e earlier) (each (Once.allows passes) earlier) once).0)
      (λ forks. makes_first e.what e.pid pid e.tid earlier (change_of e earlier (and_parts (ProcessLaw.allows e earlier) (each ProcessLaw.allows earlier) law).0) (and_parts (nat_eq e.tid tid) (makes_process pid e.what) forks).1) (fits_events earlier (and_parts (Once.allows passes e earlier) (each (Once.allows passes) earlier) once).1 (and_parts (ProcessLaw.allows e earlier) (each ProcessLaw.allows earlier) law).1)

  -- an event of the thread keeps the law
  event_allowed : (w : What) (earlier : List Event) → may_come passes w (summary_of pid tid earlier) ≡ true → Fits earlier → may_end w pid tid earlier ≡ true
  event_allowed (what.EndedWith v) earlier may fits =
      end_allowed passes (summary_of pid tid earlier) (open_at_ending pid tid earlier) (handlers_run pid tid earlier) (list_any (is_in pid) earlier) (has_begun pid tid earlier) v may fits
  event_allowed _ earlier may fits = refl

-- the law of handlers that ran holds of each list of events of which the laws of cleanup handlers and destructors and of processes hold
pub ran_all : (passes : ℕ) (events : List Event) → each (Once.allows passes) events ≡ true → each ProcessLaw.allows events ≡ true → each RanAll.allows events ≡ true
ran_all passes [] once law = refl
ran_all passes (e ∷ earlier) once law =
    let first = and_parts (Once.allows passes e earlier) (each (Once.allows passes) earlier) once in
    let rest = (and_parts (ProcessLaw.allows e earlier) (each ProcessLaw.allows earlier) law).1 in
    and_from _ _ (event_allowed passes e.pid e.tid e.what earlier first.0 (fits_events passes e.pid e.tid earlier first.1 rest)) (ran_all passes earlier first.1 rest)
