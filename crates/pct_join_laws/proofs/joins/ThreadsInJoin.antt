-- A thread that is suspended in pthread_join after its transition was so before, or begins to join in it.
use Rattle.pct_names.proofs.Names.{[], acts_on_request, ap, begins_join, creates, detaches, ends_join, false, false≢true, List, moved, None}
use Rattle.pct_names.proofs.Names.{not-true, Option, own_after, OwnAction, refl, requests, Some, Status, sym, Thread, thread_at, Transition}
use Rattle.pct_names.proofs.Names.{true, ℕ, ◌∙◌, ◌≡◌}
use Rattle.std.proofs.lemmas.Bool.{true≢false}
use Rattle.pct_model.specs.declared.state.Status.TheVariants as status
use Rattle.pct_model.specs.declared.transition.OwnAction.TheVariants as own_action
use Rattle.pct_thread_invariants.proofs.thread.JoinTransitions.{is_in_join, MayJoin, Kind, quiet, begins, begins_none, releases}

-- ---- the thread that moves

own_stays : (a : Option OwnAction) → begins_none a ≡ true → (t : Thread) → is_in_join (own_after a t).status ≡ true → (own_after a t).status ≡ t.status
unfolding own_after
own_stays (Some (own_action.Call f v kind)) is t in_join = absurd (false≢true in_join)
own_stays (Some (own_action.CallHandler f a)) is t in_join = absurd (false≢true in_join)
own_stays (Some (own_action.RunHandler f a)) is t in_join = absurd (false≢true in_join)
own_stays (Some (own_action.RunDestructor k f v)) is t in_join = absurd (false≢true in_join)
own_stays (Some (own_action.RunExitFunction f)) is t in_join = absurd (false≢true in_join)
own_stays (Some (own_action.CallForkHandler at f)) is t in_join = absurd (false≢true in_join)
own_stays (Some (own_action.Leave s)) is t in_join = absurd (true≢false (sym in_join ∙ not-true (is_in_join s) is))
own_stays (Some (own_action.SetStatus s)) is t in_join = absurd (true≢false (sym in_join ∙ not-true (is_in_join s) is))
own_stays (Some (own_action.BeginEnd why)) is t in_join = absurd (false≢true in_join)
own_stays (Some (own_action.EndThread v)) is t in_join = absurd (false≢true in_join)
own_stays (Some own_action.BeginExit) is t in_join = absurd (false≢true in_join)
own_stays (Some own_action.EndLast) is t in_join = absurd (false≢true in_join)
own_stays _ is t in_join = refl

going_on_stays : (next : Option ℕ) (t : Thread) → is_in_join (thread_at next t).status ≡ true → (thread_at next t).status ≡ t.status
unfolding thread_at
going_on_stays None t in_join = refl
going_on_stays (Some pc) t in_join = absurd (false≢true in_join)

-- a thread that is in pthread_join after a transition that begins no join was so before
moved_stays : (o : Transition) → begins_none o.own ≡ true → (t : Thread) → is_in_join (moved o t).status ≡ true → (moved o t).status ≡ t.status
moved_stays o none t in_join =
    let rest : (moved o t).status ≡ (thread_at o.next t).status = own_stays o.own none _ in_join in
    rest ∙ going_on_stays o.next t (ap is_in_join (sym rest) ∙ in_join)

-- a thread that is in pthread_join after its transition was so before, and has no event of the transition, or begins to join; the
-- transition joins and detaches no thread
pub data InJoin {id : ℕ} {threads : List Thread} {s : Status} {o : Transition} (k : Kind id threads s o) (t : Thread) : Type 0 where
  stays : (moved o t).status ≡ t.status → o.events ≡ [] → ((n : ℕ) → releases n o.named ≡ false) → InJoin k t
  begun : (n : ℕ) → (moved o t).status ≡ status.Joining n → MayJoin id threads n → o ≡ begins_join n → ((m : ℕ) → releases m o.named ≡ false) → InJoin k t

pub in_join_after : {id : ℕ} {threads : List Thread} {o : Transition} (t : Thread) (k : Kind id threads t.status o) → is_in_join (moved o t).status ≡ true → InJoin k t
unfolding thread_at own_after creates begins_join ends_join detaches requests acts_on_request
in_join_after {o} t (quiet is nothing) in_join =
    let same : (moved o t).status ≡ t.status = moved_stays o is.own t in_join in
    stays same (nothing (ap is_in_join (sym same) ∙ in_join)) is.named
in_join_after t (begins n s may) in_join = begun n refl may refl (λ m. refl)
in_join_after t _ in_join = absurd (false≢true in_join)
