-- The values of a thread, as they are read of the tables of its process.
use Rattle.pct_names.proofs.Names.{◌<◌, [], ap, KeyPlace, length, List, None, Option, option_map, refl, same_Some, Some, subst, sym, Thread}
use Rattle.pct_names.proofs.Names.{ℕ, ◌∙◌, ◌∷◌, ◌≡◌}
use Rattle.pct_keys.specs.Tables.{Table, row_at}
use Rattle.pct_threads.specs.declared.record.Place.{Place}
use Rattle.pct_threads.specs.Slots.{Held, Slot, place_of}
use Rattle.pct_threads.specs.Tables.{held_at, place_at}
use Rattle.pct_engine_laws.specs.Seen.{SeenSlot}
use Rattle.pct_process.specs.ProcessViews.{slots_of, thread_on_slot}
use Rattle.pct_process.proofs.ViewedSlots.{length-slots_of}
use Rattle.pct_step_context.proofs.ProcessReads.{held_of}
use Rattle.pct_views.specs.declared.thread_state.ThreadState.{ThreadState}
use Rattle.pct_views.specs.ShownStates.{ShowsState, ShowsOneState}

-- the id of the thread on a slot is that of this thread
pub id_is : (found : Option Thread) (t : Thread) (id : ℕ) → found ≡ Some t → option_map (λ t. t.id) found ≡ Some id → id ≡ t.id
id_is found t id is read = sym (same_Some t.id id (ap (option_map (λ (t : Thread). t.id)) (sym is) ∙ read))

-- the one thread of a list is shown
pub one_state : (keys : List KeyPlace) (threads : List Thread) (t : Thread) (view : ThreadState) → threads ≡ t ∷ [] → ShowsState keys t view → ShowsOneState keys threads (Some view)
one_state keys threads t view one shows = subst (λ (ts : List Thread). ShowsOneState keys ts (Some view)) (sym one) shows

-- without a thread there is nothing to show
pub no_state : (keys : List KeyPlace) (threads : List Thread) → threads ≡ [] → ShowsOneState keys threads None
no_state keys threads none = subst (λ (ts : List Thread). ShowsOneState keys ts None) (sym none) refl

module _ (keys : Table) (threads : List Slot) (fit : length keys.rows ≡ length threads) (k : ℕ) where
  abbrev slots : List SeenSlot
  slots = slots_of keys.rows threads

  -- a slot of the process has a row
  pub row_within : k < length slots → k < length keys.rows
  row_within inside = subst (λ (n : ℕ). k < n) (length-slots_of keys threads fit ∙ sym fit) inside

  module _ (t : Thread) (is : thread_on_slot slots k ≡ Some t) where
    -- the row of a slot has the data of its thread
    pub row_read : row_at keys k ≡ t.specific
    row_read = ap (λ (t : Thread). t.specific) (held_of keys threads fit k t is).2

    place_by : (here : Option Held) (h : Held) (place : Place) → here ≡ Some h → option_map place_of here ≡ Some place → place ≡ place_of h
    place_by here h place there read = sym (same_Some (place_of h) place (ap (option_map place_of) (sym there) ∙ read))

    -- the place on a slot is that of its thread
    pub detached_read : (place : Place) → place_at threads k ≡ Some place → place.detached ≡ t.detached
    detached_read place read =
        let h = held_of keys threads fit k t is in
        ap (λ (p : Place). p.detached) (place_by (held_at threads k) h.0 place h.1 read) ∙ ap (λ (t : Thread). t.detached) h.2
