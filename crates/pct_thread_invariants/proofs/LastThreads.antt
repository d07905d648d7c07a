-- The last thread of a process that ends goes on to exit it: each thread of the process has ended then.
use Rattle.pct_names.proofs.Names.{◌&&◌, ap, body_at, Bool, changed, child_of, cond, cond_some, Config, Entry, Environment, environment_of}
use Rattle.pct_names.proofs.Names.{false, false≢true, find, has_valid_id, holds_slot, inl, inr, is_ended_status, List, moved, nat_eq}
use Rattle.pct_names.proofs.Names.{next_of, None, none-some, not, position_or_len, Process, refl, Script, Some, subst, sym, Thread}
use Rattle.pct_names.proofs.Names.{thread_moved, thread_with, Transition, transition_by, true, World, ◌||◌, ℕ, ◌∙◌, ◌≡◌, ◌⊎◌}
use Rattle.pct_laws.specs.ThreadSummary.{ThreadSummary}
use Rattle.pct_thread_invariants.proofs.lift.KeyedLists.{found_at, item_passes}
use Rattle.pct_thread_invariants.proofs.lift.ChangedThreads.{same_settled, named_keeps, other_threads}
use Rattle.pct_thread_invariants.proofs.lift.TakenSteps.{AfterEveryRun}
use Rattle.pct_thread_invariants.proofs.lift.MadeThreads.{HasValidId}
use Rattle.pct_thread_invariants.proofs.lift.ThreadsAfter.{initial_thread, Moves, mover, is_mover, each_after}
use Rattle.pct_thread_invariants.proofs.lift.InheritedThreads.{each_heir}
use Rattle.pct_thread_invariants.proofs.lift.EveryProcess.{OfEveryProcess, IsProcessRule, unread, every_process_keeps, moves_in}
use Rattle.pct_thread_invariants.proofs.lift.EveryThread.{OfEveryThread, OfItsThreads, of_its_threads}
use Rattle.pct_thread_invariants.proofs.thread.ThreadRule.{summary, FitsAny}
use Rattle.pct_thread_invariants.proofs.thread.EndingSteps.{NeverEnds, moved_end, EndsThread, ends_only, GoesOn, goes_on, ended_by_status}
use Rattle.pct_transition_cases.proofs.CaseOfTransition.{case_of}
use Rattle.pct_transition_cases.proofs.TransitionCases.{TransitionCase}

-- ---- threads of a process

-- the thread has ended, but does not have the status of its end: it exits its process
abbrev pub ExitsAfterEnd : Thread → Type 0
ExitsAfterEnd t = (t.gone ≡ false) × (t.ended ≡ true) × (is_ended_status t.status ≡ false)

-- each of these threads has ended; one that its process did not inherit does not count
abbrev pub AllEnded : List Thread → Type 0
AllEnded threads = (id : ℕ) (t : Thread) → find (λ u. nat_eq u.id id) threads ≡ Some t → t.gone ≡ false → t.ended ≡ true

-- a thread that has ended exits its process only if each thread has ended
abbrev pub LastExits : List Thread → Type 0
LastExits threads = (id : ℕ) (t : Thread) → find (λ u. nat_eq u.id id) threads ≡ Some t → ExitsAfterEnd t → AllEnded threads

-- ---- one thread

-- what decides it of a thread
abbrev view : Thread → Bool × Bool × Bool
view t = (t.gone, t.ended, is_ended_status t.status)

-- a thread after a transition of the one with an id, if it is that one or not
moved_view : (tid : ℕ) (o : Transition) (t : Thread) (live : Bool) → has_valid_id tid t ≡ live → view (thread_moved tid o t) ≡ view (cond live (moved o t) t)
moved_view tid o t live is =
    named_keeps view (λ t j p d k s is. ap (λ (b : Bool). (t.gone, t.ended, b)) (same_settled is_ended_status (λ c m why. refl) s t.status is)) o.named (cond (has_valid_id tid t) (moved o t) t) ∙ ap (λ (b : Bool). view (cond b (moved o t) t)) is

-- a thread that is not the one with an id that holds its slot has ended, if each thread that holds its slot has ended or has the id
ended_by : (here is_end reclaimed ended same : Bool) → here ≡ true → (is_end ≡ true → ended ≡ true) → (same && (here && not (is_end && reclaimed))) ≡ false → (not (here && not (is_end && reclaimed)) || (ended || same)) ≡ true → ended ≡ true
ended_by here true reclaimed ended same is by_status other last = by_status refl
ended_by here false reclaimed true same is by_status other last = refl
ended_by false false reclaimed false same is by_status other last = absurd (false≢true is)
ended_by true false reclaimed false true is by_status other last = absurd (false≢true (sym other))
ended_by true false reclaimed false false is by_status other last = absurd (false≢true last)

-- ---- a transition

-- the fact of a process
abbrev KeepsLast : Process → Type 0
KeepsLast p = LastExits p.threads

module _ (script : Script) (config : Config) (w : World) (p : Process) (e : Entry) (t : Thread) (of_threads : OfItsThreads summary (FitsAny script config.passes) p) (moves : Moves script config w p e t) (last : LastExits p.threads) where
  abbrev o : Transition
  o = transition_by script config w p t e.alt

  -- the process after the transition
  abbrev next : Process
  next = changed e.tid o p

  it : HasValidId p e.tid t
  it = mover script config w p e t moves

  -- ---- the threads after the transition

  -- each other thread has ended
  abbrev OthersEnded : Type 0
  OthersEnded = (id : ℕ) (u : Thread) → thread_with id p ≡ Some u → u.gone ≡ false → has_valid_id e.tid u ≡ false → u.ended ≡ true

  module _ (others : OthersEnded) (ends : (moved o t).ended ≡ true) (none : o.created ≡ None) where
    moved_ended : (id : ℕ) (u : Thread) → thread_with id p ≡ Some u → (live : Bool) → has_valid_id e.tid u ≡ live → (thread_moved e.tid o u).gone ≡ false → (thread_moved e.tid o u).ended ≡ true
    moved_ended id u is true live present = ap (λ (v : Bool × Bool × Bool). v.1) (moved_view e.tid o u true live) ∙ ap (λ (x : Thread). (moved o x).ended) (is_mover script config w p e t moves id u is live).0 ∙ ends
    moved_ended id u is false live present =
        let same : view (thread_moved e.tid o u) ≡ view u = moved_view e.tid o u false live in
        ap (λ (v : Bool × Bool × Bool). v.1) same ∙ others id u is (sym (ap (λ (v : Bool × Bool × Bool). v.0) same) ∙ present) live

    all_ended : AllEnded next.threads
    all_ended = each_after script config w p e t moves (λ id w. w.gone ≡ false → w.ended ≡ true) (λ id u is. moved_ended id u is (has_valid_id e.tid u) refl) (λ id new makes present. absurd (none-some new (sym none ∙ makes)))

  -- ---- the thread that moves

  -- what it sees of the others
  abbrev seen : Environment
  seen = environment_of config w p t.id

  -- its transition, by case
  its_case : TransitionCase config.passes (body_at script t.frames) p.shared t seen true (next_of script t.frames) t.status o
  its_case = case_of config.passes (body_at script t.frames) p.shared t seen true e.alt (next_of script t.frames) t.status (λ known. moves.offered)

  -- if it has ended, it goes on, and creates nothing
  its_goes_on : t.ended ≡ true → GoesOn t.status o
  its_goes_on ended =
      let rule : (s : ThreadSummary) × FitsAny script config.passes t s = of_threads e.tid t it.found it.here in
      goes_on script config w p t rule.0 e.alt moves.offered rule.1 ended

  -- where each thread had ended, each has after the transition
  ended_stay : AllEnded p.threads → AllEnded next.threads
  ended_stay all =
      let ended : t.ended ≡ true = all e.tid t it.found it.here in
      let goes = its_goes_on ended in
      all_ended (λ id u is present other. all id u is present) (moved_end o goes.never t ∙ ended) goes.none

  -- where it ends as the last thread, each other has ended
  pub others_if_last : seen.is_last ≡ true → OthersEnded
  unfolding environment_of
  others_if_last alone id u is present other =
      let passes : (not (holds_slot u) || (u.ended || nat_eq u.id t.id)) ≡ true = item_passes (λ (x : Thread). not (holds_slot x) || (x.ended || nat_eq x.id t.id)) p.threads (position_or_len (λ (x : Thread). nat_eq x.id id) p.threads) u alone (found_at (λ (x : Thread). nat_eq x.id id) p.threads u is) in
      let rule : (s : ThreadSummary) × FitsAny script config.passes u s = of_threads id u is present in
      ended_by (not u.gone) (is_ended_status u.status) (u.joined || u.detached) u.ended (nat_eq u.id t.id) (ap not present)
      (λ is_end. sym rule.1.agrees.end ∙ ended_by_status script u.status u.reason u.frames u.handlers rule.0 is_end rule.1.by_status)
      (ap (λ (n : ℕ). nat_eq u.id n && holds_slot u) it.number ∙ other) passes

  ends_now : (t.ended ≡ false) → (moved o t).ended ≡ true → is_ended_status (moved o t).status ≡ false → AllEnded next.threads
  ends_now alive ends status = by_end (ends_only config.passes (body_at script t.frames) p.shared t seen its_case)
    where
      by_end : NeverEnds o ⊎ EndsThread t seen o → AllEnded next.threads
      by_end (inl never) = absurd (false≢true (sym alive ∙ sym (moved_end o never t) ∙ ends))
      by_end (inr ends_it) = all_ended (others_if_last (ends_it.last status)) ends ends_it.none

  -- ---- the process after the transition

  -- where the thread that moves exits after the transition
  it_exits : (ended : Bool) → t.ended ≡ ended → (moved o t).ended ≡ true → is_ended_status (moved o t).status ≡ false → AllEnded next.threads
  it_exits true ended ends status = ended_stay (last e.tid t it.found (it.here, ended, (its_goes_on ended).alive))
  it_exits false alive ends status = ends_now alive ends status

  moved_exits : (id : ℕ) (u : Thread) → thread_with id p ≡ Some u → (live : Bool) → has_valid_id e.tid u ≡ live → ExitsAfterEnd (thread_moved e.tid o u) → AllEnded next.threads
  moved_exits id u is true live exits =
      let same : view (thread_moved e.tid o u) ≡ view (moved o t) = moved_view e.tid o u true live ∙ ap (λ (x : Thread). view (moved o x)) (is_mover script config w p e t moves id u is live).0 in
      it_exits t.ended refl (sym (ap (λ (v : Bool × Bool × Bool). v.1) same) ∙ exits.1) (sym (ap (λ (v : Bool × Bool × Bool). v.2) same) ∙ exits.2)
  moved_exits id u is false live exits =
      let same : view (thread_moved e.tid o u) ≡ view u = moved_view e.tid o u false live in
      ended_stay (last id u is (sym (ap (λ (v : Bool × Bool × Bool). v.0) same) ∙ exits.0, sym (ap (λ (v : Bool × Bool × Bool). v.1) same) ∙ exits.1, sym (ap (λ (v : Bool × Bool × Bool). v.2) same) ∙ exits.2))

  pub last_after : LastExits next.threads
  last_after = each_after script config w p e t moves (λ id w. ExitsAfterEnd w → AllEnded next.threads) (λ id u is. moved_exits id u is (has_valid_id e.tid u) refl) (λ id new makes exits. absurd (false≢true exits.1))

-- ---- every run

last_rule : (script : Script) (config : Config) → IsProcessRule unread (λ p k. KeepsLast p) script config (λ w p e t. OfItsThreads summary (FitsAny script config.passes) p × Moves script config w p e t)
last_rule script config = record {
  initial = λ id t found exits. absurd (false≢true (ap (λ (u : Thread). u.ended) (cond_some (nat_eq 1 id) (initial_thread script) t found).1 ∙ exits.1));
  own = λ w p e t k known last. last_after script config w p e t known.0 known.1 last;
  -- its one thread has not ended
  born = λ w p e t k new known fork last.
      each_heir e.tid new p t (mover script config w p e t known.1) (λ id x. ExitsAfterEnd x → AllEnded (child_of e.tid new p).threads) (λ exits. absurd (false≢true exits.1)) (λ id u is exits. absurd (false≢true (sym exits.0)));
  other = λ pid o p k last. subst LastExits (sym (other_threads pid o p)) last;
}

-- after every run, a thread that has ended exits its process only if each thread of the process has ended, if the rule holds of every
-- thread
pub last_exits : (script : Script) (config : Config) → AfterEveryRun script config (OfEveryThread summary (FitsAny script config.passes)) → AfterEveryRun script config (OfEveryProcess KeepsLast)
last_exits script config of =
    let K : Process → Type 0 = OfItsThreads summary (FitsAny script config.passes) in
    every_process_keeps script config (λ w p e t. K p × Moves script config w p e t) KeepsLast (last_rule script config) (moves_in script config K (λ entries r is. of_its_threads summary (FitsAny script config.passes) r (of entries r is)))
