-- The words of an event are read as the event, under the numbers of its names.
use Rattle.std.proofs.Common.{ne_eqb}
use Rattle.pct_names.proofs.Names.{◌≡◌, ℕ, ◌<◌, true, false, [], length, Option, Some, None, Caller, What, Why, Row}
use Rattle.pct_names.proofs.Names.{ap, arith, bytes_eq, caller_name, decimal, event_words, keyword_text, nat_eq, option_and_then, option_map, point_at, point_name}
use Rattle.pct_names.proofs.Names.{point_of, points, position, refl, same_Some, slice_get, slice_get-get_or, stop_words, syntax_of, thread_text, ◌∙◌}
use Rattle.pct_names.proofs.Names.{Point, Required, NoWait}
use Rattle.pct_model.specs.declared.event.Caller.TheVariants as caller
use Rattle.pct_model.specs.declared.event.What.TheVariants as what
use Rattle.pct_model.specs.declared.stop.Why.TheVariants as why
use Rattle.pct_model.specs.EventTexts.{EventNames}
use Rattle.pct_text.proofs.Numbers.{number_again, decimal_lacks}
use Rattle.pct_text.proofs.SplitOnce.{split_again}
use Rattle.pct_cancel.proofs.Names.{name_finds_point}
use Rattle.pct_name_numbers.specs.EventReading.{caller_of, event_keyword, fields_of, point_index, stop_of, thread_of, what_of}
use Rattle.pct_event_laws.specs.Renamed.{renamed}
use Rattle.pct_event_bounds.specs.EventBounds.{HasNames, IsPoint, NamesItems}
use Rattle.pct_event_bounds.specs.EventNumbers.{Fits, NumbersFit}
use Rattle.pct_event_lines.proofs.NamesRead.{naming, after}
use Rattle.pct_event_lines.proofs.Numbers.{Keeps, numbered_again}

-- the names of each kind keep their numbers among more names
pub record KeepsAll (names more : EventNames) : Type 0 where
  pub functions : Keeps names.functions more.functions
  pub mutexes : Keeps names.mutexes more.mutexes
  pub conds : Keeps names.conds more.conds
  pub sems : Keeps names.sems more.sems
  pub onces : Keeps names.onces more.onces

-- ---- fields without names

nonzero : (k : ℕ) → 0 < k → nat_eq k 0 ≡ false
nonzero k some = ne_eqb k 0 (omega (arith, some))

caller_again : (call : Caller) → caller_of (caller_name call) ≡ Some call
unfolding caller_of syntax_of
caller_again caller.Create = refl
caller_again caller.KeyCreate = refl
caller_again caller.AtFork = refl
caller_again caller.Fork = refl
caller_again caller.WaitPid = refl
caller_again caller.AtExit = refl
caller_again caller.CondTimedWait = refl
caller_again caller.SemTimedWait = refl

row_index : (i k : ℕ) (row : Option Row) → option_map (λ (p : Point). p.index) (option_map (λ r. record { index = i; kind = r.kind; wait = r.wait }) row) ≡ Some k → i ≡ k
row_index i k None at = absurd cc
row_index i k (Some row) at = same_Some i k at

found_index : (found : Option ℕ) (k : ℕ) → option_map (λ (p : Point). p.index) (option_and_then point_at found) ≡ Some k → found ≡ Some k
found_index None k at = absurd cc
found_index (Some i) k at = ap (λ (n : ℕ). Some n) (row_index i k (slice_get points i) at)

count : length points ≡ 58
unfolding points
count = refl

point_again : (k : ℕ) → IsPoint k → point_index (point_name k) ≡ Some k
unfolding point_index point_of
point_again k within =
    let blank : Row = record { name = []; kind = Required; wait = NoWait } in
    found_index (position (λ r. bytes_eq r.name (point_name k)) points) k
    (ap (option_map (λ (p : Point). p.index)) (name_finds_point k (omega (arith, within, count)))
    ∙ ap (λ (row : Option Row). option_map (λ (p : Point). p.index) (option_map (λ r. record { index = k; kind = r.kind; wait = r.wait }) row)) (slice_get-get_or points k blank within))

-- ---- threads

pub thread_again : (pid tid : ℕ) → Fits pid → 0 < pid → Fits tid → 0 < tid → thread_of (thread_text pid tid) ≡ Some (pid, tid)
unfolding thread_of thread_text
thread_again pid tid fits some other_fits other_some =
    rw (split_again 46 (decimal pid) (decimal tid) (decimal_lacks 46 pid refl), number_again pid fits, nonzero pid some, number_again tid other_fits, nonzero tid other_some) refl

-- ---- events

stop_again : (n : EventNames) (w : Why) → what_of n (stop_words w) ≡ Some (n, what.Stopped w)
unfolding what_of event_keyword fields_of keyword_text stop_words stop_of
stop_again n why.ForkChildCall = refl
stop_again n why.AsyncCall = refl
stop_again n why.EnableInHandler = refl
stop_again n why.ExitInEnding = refl
stop_again n why.ThreadId = refl
stop_again n why.JoinSelf = refl
stop_again n why.NotJoinable = refl
stop_again n why.JoinTwice = refl
stop_again n why.DetachJoined = refl
stop_again n why.KeyId = refl
stop_again n why.NotOwner = refl
stop_again n why.CondTwoMutexes = refl
stop_again n why.ExitTwice = refl
stop_again n why.ForkInEnding = refl
stop_again n why.StackFull = refl
stop_again n why.CleanupFull = refl

-- s are the names of a script, n those that were read before, and more those that were read after the event or later
module _ (s n more : EventNames) (has : HasNames s) where
  pub event_again : (w : What) → NamesItems s w → NumbersFit w → KeepsAll (after s n w) more → what_of n (event_words s w) ≡ Some (after s n w, renamed (naming s more) w)
  unfolding what_of event_keyword fields_of keyword_text event_words
  event_again (what.Emit v) items fit keeps = rw (number_again v fit) refl
  event_again (what.Created id true) items fit keeps = rw (number_again id fit, nonzero id items) refl
  event_again (what.Created id false) items fit keeps = rw (number_again id fit, nonzero id items) refl
  event_again (what.Answer call k) items fit keeps = rw (caller_again call, number_again k fit) refl
  event_again (what.Pushed f a) items fit keeps = rw (numbered_again s.functions n.functions more.functions f has.functions items keeps.functions, number_again a fit) refl
  event_again (what.Popped f a true) items fit keeps = rw (numbered_again s.functions n.functions more.functions f has.functions items keeps.functions, number_again a fit) refl
  event_again (what.Popped f a false) items fit keeps = rw (numbered_again s.functions n.functions more.functions f has.functions items keeps.functions, number_again a fit) refl
  event_again (what.Request id) items fit keeps = rw (number_again id fit) refl
  event_again (what.Detached id) items fit keeps = rw (number_again id fit) refl
  event_again (what.StateSet true) items fit keeps = refl
  event_again (what.StateSet false) items fit keeps = refl
  event_again (what.ModeSet true) items fit keeps = refl
  event_again (what.ModeSet false) items fit keeps = refl
  event_again (what.Called point) items fit keeps = rw (point_again point items) refl
  event_again (what.Done point) items fit keeps = rw (point_again point items) refl
  event_again (what.Joined id v) items fit keeps = rw (number_again id fit.0, number_again v fit.1) refl
  event_again (what.EndingExit v) items fit keeps = rw (number_again v fit) refl
  event_again what.EndingCanceled items fit keeps = refl
  event_again (what.EndingInWait c m) items fit keeps = rw (numbered_again s.conds n.conds more.conds c has.conds items.0 keeps.conds, numbered_again s.mutexes n.mutexes more.mutexes m has.mutexes items.1 keeps.mutexes) refl
  event_again (what.HandlerRun f a) items fit keeps = rw (numbered_again s.functions n.functions more.functions f has.functions items keeps.functions, number_again a fit) refl
  event_again (what.PassBegun k) items fit keeps = rw (number_again k fit) refl
  event_again (what.DtorRun pass key f v) items fit keeps = rw (number_again pass fit.0, number_again key fit.1, numbered_again s.functions n.functions more.functions f has.functions items keeps.functions, number_again v fit.2) refl
  event_again (what.Leftover k) items fit keeps = rw (number_again k fit) refl
  event_again (what.EndedWith v) items fit keeps = rw (number_again v fit) refl
  event_again (what.KeyMade k) items fit keeps = rw (number_again k fit) refl
  event_again (what.KeyGone k) items fit keeps = rw (number_again k fit) refl
  event_again (what.Acquired m) items fit keeps = rw (numbered_again s.mutexes n.mutexes more.mutexes m has.mutexes items keeps.mutexes) refl
  event_again (what.Released m) items fit keeps = rw (numbered_again s.mutexes n.mutexes more.mutexes m has.mutexes items keeps.mutexes) refl
  event_again (what.Signalled c id) items fit keeps = rw (numbered_again s.conds n.conds more.conds c has.conds items keeps.conds, number_again id fit) refl
  event_again (what.BroadcastTo c count) items fit keeps = rw (numbered_again s.conds n.conds more.conds c has.conds items keeps.conds, number_again count fit) refl
  event_again (what.WaitCanceled c) items fit keeps = rw (numbered_again s.conds n.conds more.conds c has.conds items keeps.conds) refl
  event_again (what.WaitExpired c) items fit keeps = rw (numbered_again s.conds n.conds more.conds c has.conds items keeps.conds) refl
  event_again (what.HandedOn c id) items fit keeps = rw (numbered_again s.conds n.conds more.conds c has.conds items keeps.conds, number_again id fit) refl
  event_again (what.Taken k) items fit keeps = rw (numbered_again s.sems n.sems more.sems k has.sems items keeps.sems) refl
  event_again (what.Posted k) items fit keeps = rw (numbered_again s.sems n.sems more.sems k has.sems items keeps.sems) refl
  event_again (what.OnceCalled o) items fit keeps = rw (numbered_again s.onces n.onces more.onces o has.onces items keeps.onces) refl
  event_again (what.OnceDone o) items fit keeps = rw (numbered_again s.onces n.onces more.onces o has.onces items keeps.onces) refl
  event_again (what.Forked pid) items fit keeps = rw (number_again pid fit, nonzero pid items) refl
  event_again (what.PrepareRun f) items fit keeps = rw (numbered_again s.functions n.functions more.functions f has.functions items keeps.functions) refl
  event_again (what.ParentRun f) items fit keeps = rw (numbered_again s.functions n.functions more.functions f has.functions items keeps.functions) refl
  event_again (what.ChildRun f) items fit keeps = rw (numbered_again s.functions n.functions more.functions f has.functions items keeps.functions) refl
  event_again (what.ExitBegun v) items fit keeps = rw (number_again v fit) refl
  event_again (what.ExitRun f) items fit keeps = rw (numbered_again s.functions n.functions more.functions f has.functions items keeps.functions) refl
  event_again (what.ProcessEnded k) items fit keeps = rw (number_again k fit) refl
  event_again (what.Reaped pid k) items fit keeps = rw (number_again pid fit.0, number_again k fit.1) refl
  event_again (what.Stopped w) items fit keeps = stop_again n w
