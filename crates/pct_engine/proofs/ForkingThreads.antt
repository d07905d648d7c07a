-- In each state that keeps the invariant, a thread that is in fork has room for the frame of a fork handler.
use Rattle.pct_names.proofs.Names.{◌<◌, [], All, All-head, ap, cases_lt, Config, Event, false≢true, Frame, get_or_past, if◌then◌else◌, inl}
use Rattle.pct_names.proofs.Names.{inr, is_forking, length, List, MAX_FRAMES, none-some, same_Some, Script, slice_get, slice_get-get_or}
use Rattle.pct_names.proofs.Names.{Some, Status, subst, suc, sym, Thread, true, World, ℕ, ◌∙◌, ◌∷◌, ◌≡◌, ◌≤◌}
use Rattle.pct_model.specs.declared.state.Status.TheVariants as status
use Rattle.pct_laws.specs.Kept.{Kept, is_in_fork_handler}
use Rattle.pct_engine_laws.specs.Seen.{SeenSlot, SeenProcess, seen}
use Rattle.pct_engine_laws.proofs.SeenThreads.{IsMadeThread, IsSeenOf, seen_of}
use Rattle.pct_process.specs.ProcessViews.{first_of, slot_on, thread_on_slot}
use Rattle.pct_transitions.specs.ProcessSteps.{ForksHaveRoom}

-- the first of some threads, each of which has a property, has it
first_has : (Has : Thread → Type 0) (here : List Thread) (t : Thread) → first_of here ≡ Some t → All Has here → Has t
first_has Has [] t first each = absurd (none-some t first)
first_has Has (u ∷ rest) t first each = subst Has (same_Some u t first) (All-head Has u rest each)

-- so has the thread on a slot, if each thread on each slot has it
on_slot_has : (Has : Thread → Type 0) (slots : List SeenSlot) → ((k : ℕ) (row : SeenSlot) → slice_get slots k ≡ Some row → All Has row.here) → (k : ℕ) (t : Thread) → thread_on_slot slots k ≡ Some t → Has t
on_slot_has Has slots each k t at =
    elim (cases_lt k (length slots)) [
      | inl inside ↦ first_has Has (slot_on slots k).here t at (each k (slot_on slots k) (slice_get-get_or slots k _ inside))
      | inr past ↦ absurd (none-some t (sym (ap (λ (s : SeenSlot). first_of s.here) (get_or_past slots k _ past)) ∙ at))
    ]

-- a thread that is in fork is in no fork handler, and has at most MAX_FRAMES frames
few_frames : (st : Status) (frames : List Frame) → is_forking st ≡ true → length frames ≤ (if is_in_fork_handler st frames then suc MAX_FRAMES else MAX_FRAMES) → length frames ≤ MAX_FRAMES
few_frames (status.Forking at) frames forking few = few
few_frames _ frames forking few = absurd (false≢true forking)

-- the threads of each process that is kept of a state
pub forks_have_room : (script : Script) (config : Config) (w : World) (events : List Event) → 0 < config.slots → Kept script config w events → (i : ℕ) (p : SeenProcess) → slice_get (seen config.slots w).processes i ≡ Some p → ForksHaveRoom p.slots
forks_have_room script config w events some kept i p at = λ k t here forking.
    let of_process : IsSeenOf config.slots w p = seen_of config.slots w events some kept.numbers i p at in
    let made : IsMadeThread w of_process.process t = on_slot_has (IsMadeThread w of_process.process) p.slots of_process.threads k t here in
    few_frames t.status t.frames forking (kept.forks of_process.process.pid t.id t made.made made.here).depth
