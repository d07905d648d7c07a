-- The parts of a transition of a thread, in words of the data of its process: what it changes in the thread itself and in the globals, then
-- its actions on what the threads share and on the threads that it names, then the thread that it creates.
use Rattle.std.specs.Prelude.{◌≡◌, ℕ, true, List, [], ◌∷◌, length, map, filter, Option, Some, IfSome, nat_eq, slice_get}
use Rattle.std.specs.List.{list_any}
use Rattle.pct_model.specs.declared.transition.NamedAction.{NamedAction}
use Rattle.pct_model.specs.declared.transition.NamedAction.TheVariants as named_action
use Rattle.pct_model.specs.declared.transition.NewThread.{NewThread}
use Rattle.pct_model.specs.declared.transition.Transition.{Transition}
use Rattle.pct_model.specs.Actions.{globals_written, moved, named_after, onces_after, shared_after, written}
use Rattle.pct_model.specs.ThreadSlots.{holds_slot}
use Rattle.pct_model.specs.World.{Thread}
use Rattle.pct_engine_laws.specs.Fitting.{Fits}
use Rattle.pct_engine_laws.specs.Seen.{SeenSlot, on_slot, with_created}
use Rattle.pct_engine_laws.specs.SeenSteps.{new_ids_from}
use Rattle.pct_process.specs.ProcessViews.{ProcessData}
use Rattle.pct_actions.specs.ProcessChanges.{deleted_key, forgotten_key, woken, AreOnSlots, KeyFits, NamedFits, SharedFits}

-- ---- slots

-- a slot with a change of its threads
abbrev pub on_threads : (Thread → Thread) → SeenSlot → SeenSlot
on_threads change s = record s { here = map change s.here }

-- a slot with a change of its threads, once those that were reclaimed have left it
abbrev pub slot_changed : (Thread → Thread) → SeenSlot → SeenSlot
slot_changed change s = record s { here = filter holds_slot (map change s.here) }

-- ---- the parts

-- the process after the part of the thread on a slot, which has this id, with what is written to globals, and the once controls
abbrev pub own_made : ℕ → ℕ → Transition → ProcessData → ProcessData
own_made tid slot o p = record {
  slots = on_slot slot (slot_changed (moved o)) p.slots;
  shared = record p.shared { globals = written globals_written o.writes p.shared.globals; onces = onces_after tid o.own p.shared.onces };
}

-- the process after the actions on what its threads share, and on the threads that are named
abbrev pub others_made : Transition → ProcessData → ProcessData
others_made o p = record { slots = map (slot_changed (named_after o.named)) p.slots; shared = shared_after o.shared p.shared }

-- the process with the thread that a transition creates, if it does
abbrev pub created_made : Option NewThread → ProcessData → ProcessData
created_made created p = record p { slots = with_created (length p.slots) created p.slots }

-- the number of records of threads that the actions on the threads that are named take at most
abbrev pub taken : Option NamedAction → List SeenSlot → ℕ
taken (Some (named_action.WakeAll c)) slots = woken (Some (named_action.WakeAll c)) slots
taken _ slots = 1

-- ---- what they need

-- one thread is on a slot, and it has room and the key for its action
pub record OwnFits (slot : ℕ) (o : Transition) (p : ProcessData) : Type 0 where
  pub made : ℕ
  pub thread : Thread
  pub here : slice_get p.slots slot ≡ Some (record { made = made; here = thread ∷ [] })
  pub fits : Fits (length thread.frames) (length thread.handlers) thread.pass o.own
  pub keys : KeyFits o.own p.shared.keys

-- the actions of a thread with this id fit what the threads share, and the threads that they name
pub record OthersFit (o : Transition) (p : ProcessData) : Type 0 where
  pub on_slots : AreOnSlots p.slots
  pub tid : ℕ
  pub shared : SharedFits o.shared p.shared
  pub named : NamedFits tid o.named p.slots
  pub forgets : deleted_key o.shared ≡ forgotten_key o.named

-- the thread that a transition creates has an id that a new thread can get
abbrev pub NewFits : Option NewThread → ProcessData → Type 0
NewFits created p = IfSome created (λ new. list_any (nat_eq new.id) (new_ids_from (length p.slots) 0 p.slots) ≡ true)
