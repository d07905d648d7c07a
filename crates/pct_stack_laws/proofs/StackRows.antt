-- The law of stack slots: threads and steps that keep it, and ones that do not, each with the name of the sentence that it breaks. A process has
-- four slots, so threads 1 and 5 are on slot 0.
use Rattle.pct_names.proofs.Names.{[], arith, false, false≢true, List, new_frame, new_thread, None, Process, refl, SharedState, Start, sym}
use Rattle.pct_names.proofs.Names.{Thread, true, ℕ, ◌∷◌}
use Rattle.pct_model.specs.declared.state.Status.TheVariants as status
use Rattle.pct_stack_laws.specs.StackLaw.{HasOneThread, KeepsSlot, KeepsSlotsOf}

-- ---- threads

-- a joinable thread, which runs
abbrev running : ℕ → Thread
running id = new_thread id false (new_frame 0 0 Start)

-- it has ended
abbrev ended : ℕ → Thread
ended id = record (running id) { status = status.Ended 7; ended = true }

-- and was joined, or is detached
abbrev joined : ℕ → Thread
joined id = record (ended id) { joined = true }

abbrev detached : ℕ → Thread
detached id = record (ended id) { detached = true }

-- ---- a state

on_two_slots : HasOneThread 4 (running 1 ∷ running 2 ∷ []) 0
on_two_slots = omega arith

after_a_join : HasOneThread 4 (joined 1 ∷ running 5 ∷ []) 0
after_a_join = omega arith

a_running_thread_has_its_slot_alone : HasOneThread 4 (running 1 ∷ running 5 ∷ []) 0 → ⊥
a_running_thread_has_its_slot_alone law = omega (arith, law)

an_ended_thread_has_its_slot_until_it_is_joined : HasOneThread 4 (ended 1 ∷ running 5 ∷ []) 0 → ⊥
an_ended_thread_has_its_slot_until_it_is_joined law = omega (arith, law)

a_detached_thread_has_its_slot_until_it_has_ended : HasOneThread 4 (record (running 1) { detached = true } ∷ running 5 ∷ []) 0 → ⊥
a_detached_thread_has_its_slot_until_it_has_ended law = omega (arith, law)

-- ---- a step

it_ends_joinable : KeepsSlot (running 1) (ended 1)
it_ends_joinable = record { id = refl; there = refl; given_back = λ holds none. absurd (false≢true (sym none)); for_good = λ none. absurd (false≢true (sym none)) }

it_is_joined : KeepsSlot (ended 1) (joined 1)
it_is_joined = record { id = refl; there = refl; given_back = λ holds none. (refl, refl); for_good = λ none. absurd (false≢true (sym none)) }

it_ends_detached : KeepsSlot (record (running 1) { detached = true }) (record (ended 1) { detached = true })
it_ends_detached = record { id = refl; there = refl; given_back = λ holds none. (refl, refl); for_good = λ none. absurd (false≢true (sym none)) }

it_stays_on_its_slot : KeepsSlot (running 1) (running 5) → ⊥
it_stays_on_its_slot law = omega (arith, law.id)

no_step_makes_it_gone : KeepsSlot (running 1) (record (running 1) { gone = true }) → ⊥
no_step_makes_it_gone law = false≢true (sym law.there)

it_gives_its_slot_back_once_it_has_ended : KeepsSlot (running 1) (record (joined 1) { ended = false }) → ⊥
it_gives_its_slot_back_once_it_has_ended law = false≢true (law.given_back refl refl).0

it_gives_its_slot_back_for_good : KeepsSlot (joined 1) (running 1) → ⊥
it_gives_its_slot_back_for_good law = false≢true (sym (law.for_good refl))

-- a process with these threads
abbrev process : SharedState → List Thread → Process
process shared threads = record { pid = 1; parent = 0; ended = None; threads = threads; shared = shared }

each_thread_stays : (shared : SharedState) → KeepsSlotsOf (process shared (running 1 ∷ [])) (process shared []) → ⊥
each_thread_stays shared law = law.kept 0 (running 1) refl

a_new_thread_has_a_slot : (shared : SharedState) → KeepsSlotsOf (process shared (running 1 ∷ [])) (process shared (running 1 ∷ record (running 2) { gone = true } ∷ [])) → ⊥
a_new_thread_has_a_slot shared law = false≢true (law.taken 0 (running 1) (omega arith))
