-- Thread slots and thread ids: when a thread holds its slot, and the ids of new threads where a process did not inherit a thread.
use Rattle.pct_names.proofs.Names.{◌&&◌, [], ap, Bool, exits_after_its_end, false, false≢true, free_ids, holds_slot, is_ended_status}
use Rattle.pct_names.proofs.Names.{is_some, is_unreclaimed, KeyPlace, List, map, new_frame, new_thread, next_id, not, Option, refl, Script}
use Rattle.pct_names.proofs.Names.{Some, Status, sym, Thread, true, ◌||◌, ℕ, ◌∙◌, ◌∷◌, ◌≡◌}
use Rattle.pct_model.specs.declared.state.FrameKind.TheVariants as kind
use Rattle.pct_model.specs.declared.state.Status.TheVariants as status
use Rattle.pct_laws.specs.Kept.{ThreadKept}
use Rattle.pct_laws.specs.ThreadSummary.{ThreadSummary}

by_its_fields : (gone over ended released : Bool) → (over ≡ true → ended ≡ true) → (not gone && not (over && released)) ≡ ((not gone && (not ended || not released)) || (not gone && ended && not over))
by_its_fields true over ended released has = refl
by_its_fields false true true true has = refl
by_its_fields false true true false has = refl
by_its_fields false true false released has = absurd (false≢true (has refl))
by_its_fields false false true true has = refl
by_its_fields false false true false has = refl
by_its_fields false false false released has = refl

by_status : (st : Status) (value : Option ℕ) → ((v : ℕ) → st ≡ status.Ended v → value ≡ Some v) → is_ended_status st ≡ true → is_some value ≡ true
by_status (status.Ended v) value is over = ap is_some (is v refl)
by_status _ value is over = absurd (false≢true over)

-- in every state that a run reaches, a thread holds its slot exactly if it is unreclaimed or exits its process after its own end
pub holds_until_reclaimed : (script : Script) (keys : List KeyPlace) (t : Thread) (s : ThreadSummary) → ThreadKept script keys t s → holds_slot t ≡ (is_unreclaimed t || exits_after_its_end t)
holds_until_reclaimed script keys t s kept =
    by_its_fields t.gone (is_ended_status t.status) t.ended (t.joined || t.detached) (λ over. sym kept.ended ∙ by_status t.status s.ended kept.value over)

-- a new thread, at its first statement
abbrev ready : ℕ → Thread
ready id = new_thread id false (new_frame 0 0 kind.Start)

-- three threads on two slots, of which one was joined and one is not inherited
abbrev threads : List Thread
threads = ready 1 ∷ record (ready 2) { status = status.Ended 5; ended = true; joined = true } ∷ record (ready 4) { gone = true } ∷ []

-- the next id of each slot, whoever holds it, and the ids of the free slots
next_ids : (map (next_id 2 threads) (0 ∷ 1 ∷ []) ≡ 3 ∷ 6 ∷ []) × (free_ids 2 threads ≡ 6 ∷ []) × (free_ids 4 threads ≡ 6 ∷ 3 ∷ 8 ∷ [])
unfolding free_ids
next_ids = (refl, refl, refl)
