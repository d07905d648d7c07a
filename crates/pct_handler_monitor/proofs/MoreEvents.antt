-- What is kept of a thread, after an event more.
use Rattle.std.proofs.Common.{◌≡◌, ℕ, ◌<◌, Bool, true, false, ◌&&◌, ◌||◌, cond, List, [], ◌∷◌, ◌++◌, reverse, length, length-append, Option, refl, sym, ap, ◌∙◌, arith, true≢false}
use Rattle.std.specs.Prelude.{IfSome, option_map, option_and_then}
use Rattle.std.proofs.lemmas.Bool.{false_from_ne_true, or_right}
use Rattle.std.proofs.lemmas.List.{reverse-append, append-nil}
use Rattle.pct_model.specs.declared.event.Event.{Event}
use Rattle.pct_model.specs.declared.event.What.{What}
use Rattle.pct_model.specs.declared.event.What.TheVariants as what
use Rattle.pct_laws.specs.KnownThreads.{is_own}
use Rattle.pct_laws.specs.RanAll.{begins_to_end, has_begun, open_at_ending, handler_run, handlers_run}
use Rattle.pct_laws.specs.ThreadSummary.{summary_of}
use Rattle.pct_audit.specs.IsRow.{Grows}
use Rattle.pct_audit.specs.Stacks.{stack_at}
use Rattle.pct_audit.proofs.StackFacts.{front, last}
use Rattle.pct_handler_monitor.specs.declared.ran.RanHandlers.{RanHandlers}
use Rattle.pct_handler_monitor.specs.declared.ran.RanHandlers.TheVariants.{BeforeEnd, Ending}
use Rattle.pct_handler_monitor.specs.Left.{left_after}
use Rattle.pct_handler_monitor.specs.IsRan.{IsBeforeEnd, IsEnding, IsRan}
use Rattle.pct_handler_monitor.proofs.LeftFacts.{left_after-append, none_later}

abbrev Stack : Type 0
Stack = List (ℕ × ℕ)

-- by an event by which a thread begins to end no handler runs
begins_alone : (w : What) → begins_to_end w ≡ true → handler_run w ≡ []
begins_alone (what.HandlerRun f a) begins = absurd (true≢false (sym begins))
begins_alone _ begins = refl

-- by an event by which a handler runs no thread begins to end
runs_alone : (w : What) (handler : ℕ × ℕ) → handler_run w ≡ handler ∷ [] → begins_to_end w ≡ false
runs_alone w handler runs = false_from_ne_true (begins_to_end w) (λ begins. omega (arith, ap length (sym runs ∙ begins_alone w begins)))

-- a new stack leaves those before it
pub pushed_grows : (before after : List Stack) (stack : Stack) → after ≡ before ++ stack ∷ [] → Grows before after
pushed_grows before after stack is = record {
  more = omega (arith, ap length is, length-append before (stack ∷ []));
  same = λ k within. ap (λ (stacks : List Stack). stack_at stacks k) is ∙ front before (stack ∷ []) k within;
}

module _ (e : Event) (events : List Event) (pid tid : ℕ) where
  -- whether the thread has begun to end, if the newest event does not change that
  same_begun : (begun : Bool) → (is_own pid tid e && begins_to_end e.what) ≡ false → has_begun pid tid events ≡ begun → has_begun pid tid (e ∷ events) ≡ begun
  same_begun begun not_now was = ap (λ (now : Bool). now || has_begun pid tid events) not_now ∙ was

  -- once it has begun to end, it has
  still_begun : has_begun pid tid events ≡ true → has_begun pid tid (e ∷ events) ≡ true
  still_begun was = ap (λ (before : Bool). (is_own pid tid e && begins_to_end e.what) || before) was ∙ or_right (is_own pid tid e && begins_to_end e.what) true refl

  -- an event by which no handler of the thread runs
  none_run : cond (is_own pid tid e) (handler_run e.what) [] ≡ [] → handlers_run pid tid (e ∷ events) ≡ handlers_run pid tid events
  none_run none = ap (λ (more : Stack). handlers_run pid tid events ++ more) none ∙ append-nil (handlers_run pid tid events)

  -- a thread that has begun to end: what is left after the handlers of the newest event
  ending_more : (stacks : List Stack) (left next : Option ℕ) (later : Stack) → cond (is_own pid tid e) (handler_run e.what) [] ≡ later
      → IfSome next (λ number. number < length stacks) → option_map (stack_at stacks) next ≡ option_and_then (left_after later) (option_map (stack_at stacks) left)
      → IsEnding stacks left pid tid events → IsEnding stacks next pid tid (e ∷ events)
  ending_more stacks left next later runs within taken is = record {
    begun = still_begun is.begun;
    within = within;
    handlers =
        taken ∙ ap (option_and_then (left_after later)) is.handlers
        ∙ sym (left_after-append (handlers_run pid tid events) later (open_at_ending pid tid events))
        ∙ ap (λ (more : Stack). left_after (handlers_run pid tid events ++ more) (open_at_ending pid tid events)) (sym runs)
        ∙ ap (left_after (handlers_run pid tid (e ∷ events))) (sym same_open);
  }
    where
      same_open : open_at_ending pid tid (e ∷ events) ≡ open_at_ending pid tid events
      same_open = ap (λ (begun : Bool). cond begun (open_at_ending pid tid events) (cond (is_own pid tid e && begins_to_end e.what) (summary_of pid tid events).handlers [])) is.begun

  -- a thread that does not begin to end by the newest event, and runs no handler
  same_before : (stacks more : List Stack) (ran : ℕ) → cond (is_own pid tid e) (handler_run e.what) [] ≡ [] → (is_own pid tid e && begins_to_end e.what) ≡ false → Grows stacks more
      → IsBeforeEnd stacks ran pid tid events → IsBeforeEnd more ran pid tid (e ∷ events)
  same_before stacks more ran none not_now grows is = record {
    begun = same_begun false not_now is.begun;
    within = omega (arith, is.within, grows.more);
    handlers = ap (λ (stack : Stack). reverse stack) (grows.same ran is.within) ∙ is.handlers ∙ sym (none_run none);
  }

  -- an event of another thread
  pub other_thread : (thread : RanHandlers) (ran more pushed : List Stack) → is_own pid tid e ≡ false → Grows ran more → IsRan thread ran pushed pid tid events → IsRan thread more pushed pid tid (e ∷ events)
  other_thread (BeforeEnd number) ran more pushed other grows is =
      same_before ran more number (ap (λ (own : Bool). cond own (handler_run e.what) []) other) (ap (λ (own : Bool). own && begins_to_end e.what) other) grows is
  other_thread (Ending left) ran more pushed other grows is =
      ending_more pushed left left [] (ap (λ (own : Bool). cond own (handler_run e.what) []) other) is.within (sym (none_later (option_map (stack_at pushed) left))) is

  module _ (own : is_own pid tid e ≡ true) where
    own_run : (later : Stack) → handler_run e.what ≡ later → cond (is_own pid tid e) (handler_run e.what) [] ≡ later
    own_run later runs = ap (λ (own : Bool). cond own (handler_run e.what) []) own ∙ runs

    own_begins : (begins : Bool) → begins_to_end e.what ≡ begins → (is_own pid tid e && begins_to_end e.what) ≡ begins
    own_begins begins is = ap (λ (own : Bool). own && begins_to_end e.what) own ∙ is

    -- an event of the thread, which has begun to end
    pub own_ending : (stacks : List Stack) (left next : Option ℕ)
        → IfSome next (λ number. number < length stacks) → option_map (stack_at stacks) next ≡ option_and_then (left_after (handler_run e.what)) (option_map (stack_at stacks) left)
        → IsEnding stacks left pid tid events → IsEnding stacks next pid tid (e ∷ events)
    own_ending stacks left next within taken is = ending_more stacks left next (handler_run e.what) (own_run (handler_run e.what) refl) within taken is

    -- a handler runs in the thread, which has not begun to end
    pub own_run_before : (stacks more : List Stack) (ran number : ℕ) (handler : ℕ × ℕ) → handler_run e.what ≡ handler ∷ []
        → number ≡ length stacks → more ≡ stacks ++ (handler ∷ stack_at stacks ran) ∷ []
        → IsBeforeEnd stacks ran pid tid events → IsBeforeEnd more number pid tid (e ∷ events)
    own_run_before stacks more ran number handler runs numbered pushed is = record {
      begun = same_begun false (own_begins false (runs_alone e.what handler runs)) is.begun;
      within = omega (arith, numbered, ap length pushed, length-append stacks ((handler ∷ stack_at stacks ran) ∷ []));
      handlers =
          ap (λ (all : List Stack). reverse (stack_at all number)) pushed
          ∙ ap (λ (stack : Stack). reverse stack) (last stacks (handler ∷ stack_at stacks ran) number numbered)
          ∙ reverse-append (handler ∷ []) (stack_at stacks ran)
          ∙ ap (λ (before : Stack). before ++ handler ∷ []) is.handlers
          ∙ ap (λ (later : Stack). handlers_run pid tid events ++ later) (sym (own_run (handler ∷ []) runs));
    }
